pub mod Statement
pub mod Reads
pub mod Writes
pub mod Length
pub mod Kept
