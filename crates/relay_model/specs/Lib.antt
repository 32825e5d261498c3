pub mod Status
pub mod Ending
pub mod Lines
pub mod World
pub mod Run
pub mod Devices
pub mod Answers
