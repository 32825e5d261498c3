pub mod Cases
pub mod Reading
