pub mod Programs
pub mod Fixed
pub mod Refused
