pub mod Given
pub mod Untouched
