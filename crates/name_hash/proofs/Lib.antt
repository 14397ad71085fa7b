pub mod Mixing
pub mod Turning
