pub mod Short
pub mod Passes
pub mod Why
