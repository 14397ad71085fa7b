pub mod Inside
pub mod Choose
pub mod Longer
