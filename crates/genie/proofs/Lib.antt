pub mod HandsBack
pub mod Compared
pub mod Program
pub mod Drives
