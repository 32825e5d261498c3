pub mod Cases
pub mod Keys
pub mod Names
pub mod Numbers
pub mod Words
