pub mod Finding
pub mod Kept
