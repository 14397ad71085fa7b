pub mod Accepted
pub mod Refused
