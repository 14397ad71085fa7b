pub mod Statement
pub mod Kept
