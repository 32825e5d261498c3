pub mod Memory
pub mod Rule
pub mod Gates
pub mod Words
pub mod Numbered
