pub mod Programs
pub mod Fixed
pub mod Others
pub mod Refused
