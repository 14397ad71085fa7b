pub mod Statement
pub mod Agreement
pub mod Telling
