pub mod NewEnds
pub mod Rented
pub mod Serve
