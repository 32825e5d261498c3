pub mod AnswerLemmas
pub mod LineFeedLemmas
