pub mod Statement
pub mod Drive
pub mod Proved
pub mod Interleaved
pub mod Turns
pub mod Demand3
pub mod Samples
