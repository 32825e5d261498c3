pub mod Cases
pub mod Sequence
pub mod SpanIter
pub mod Spans
