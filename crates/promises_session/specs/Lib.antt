pub mod Statement
pub mod Staying
pub mod Kept
