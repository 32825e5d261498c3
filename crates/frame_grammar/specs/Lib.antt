pub mod Answers
pub mod Job
