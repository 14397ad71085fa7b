pub mod Statement
pub mod Steps
pub mod Accepted
pub mod Kept
