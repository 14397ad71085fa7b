pub mod Bytes
pub mod Items
pub mod Passing
pub mod Call
