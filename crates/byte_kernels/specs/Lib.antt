pub mod ByteSet
pub mod Marks
pub mod Scan
