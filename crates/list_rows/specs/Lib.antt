pub mod Rows
pub mod Lengths
mod Cases
