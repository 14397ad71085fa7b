pub mod Statement
pub mod State
pub mod SameFiles
pub mod Quiet
pub mod Still
pub mod Asked
