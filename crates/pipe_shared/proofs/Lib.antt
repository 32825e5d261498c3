pub mod SpanLemmas
pub mod EndLemmas
pub mod WaitingLemmas
pub mod LocalLemmas
