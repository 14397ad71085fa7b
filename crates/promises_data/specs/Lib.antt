pub mod Slots
pub mod Alike
pub mod Flag
pub mod Kept
pub mod Compared
