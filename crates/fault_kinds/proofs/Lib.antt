pub mod Chains
pub mod Passes
pub mod Bridge
pub mod Noting
