pub mod Statement
pub mod Passing
pub mod Serving
pub mod Numbers
pub mod Kept
