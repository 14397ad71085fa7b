pub mod Faults
pub mod Walks
