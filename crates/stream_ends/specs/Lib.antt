pub mod Reader
pub mod Reads
pub mod Writer
pub mod Lending
pub mod Cases
