pub mod Parts
pub mod Apart
pub mod Calls
