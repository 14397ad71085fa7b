pub mod Effects
pub mod Interleavings
pub mod Heard
pub mod Bytes
pub mod Demand3
