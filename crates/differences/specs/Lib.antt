pub mod Compare
pub mod Order
pub mod Told
pub mod Placement
