pub mod Step
pub mod Trimming
pub mod Runs
