pub mod Slots
pub mod Quiet
pub mod Revived
pub mod Second
