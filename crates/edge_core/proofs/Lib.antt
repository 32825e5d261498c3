pub mod DeviceLemmas
pub mod MemDoorsLemmas
pub mod NamesLemmas
pub mod ReturnsLemmas
pub mod SourceLemmas
