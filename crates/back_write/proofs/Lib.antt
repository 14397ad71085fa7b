pub mod Done
pub mod Frame
