pub mod Pair
pub mod ByName
pub mod ByHandle
pub mod Cases
