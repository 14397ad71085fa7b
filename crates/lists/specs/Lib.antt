pub mod Tests
pub mod Members
pub mod Counting
pub mod Ranges
pub mod Below
pub mod First
pub mod Sizes
