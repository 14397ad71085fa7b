pub mod Statement
pub mod Reads
pub mod Stores
pub mod Growing
pub mod Answers
pub mod Kept
