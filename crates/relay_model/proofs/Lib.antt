pub mod RunLemmas
pub mod StatusLemmas
pub mod CompleteLemmas
pub mod AnswerLemmas
pub mod DevicesLemmas
