pub mod BitLemmas
pub mod LaneLemmas
pub mod MarksLemmas
pub mod PlaceLemmas
pub mod TableLemmas
