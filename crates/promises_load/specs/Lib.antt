pub mod Statement
pub mod Cutting
pub mod Asking
pub mod Reading
pub mod Mixed
pub mod Interleaved
pub mod Samples
pub mod Numbers
