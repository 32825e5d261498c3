pub mod Heads
pub mod Spelling
pub mod Cut
pub mod Translation
