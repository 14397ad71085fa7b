pub mod Names
pub mod Pairs
pub mod Moving
pub mod Sorting
pub mod Merging
