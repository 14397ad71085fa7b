pub mod Enough
pub mod Search
pub mod Low
pub mod ClearFrom
