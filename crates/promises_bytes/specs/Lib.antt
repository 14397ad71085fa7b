pub mod Statement
pub mod Stores
pub mod Steps
pub mod Behind
pub mod Kept
