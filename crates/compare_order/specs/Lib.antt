pub mod Whole
pub mod Table
pub mod Walk
