pub mod Batch
pub mod Commands
pub mod Drill
pub mod Opened
pub mod Opening
pub mod Serving
