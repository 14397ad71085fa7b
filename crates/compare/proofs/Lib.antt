pub mod Under
pub mod Telling
