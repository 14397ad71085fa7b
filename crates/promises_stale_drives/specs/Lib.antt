pub mod Statement
pub mod Kept
pub mod Samples
