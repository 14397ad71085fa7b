mod Name
mod Padded
pub mod Comes
