pub mod Lent
mod Told
pub mod Telling
pub mod Numbers
