pub mod Marks
pub mod Owners
pub mod Eight
