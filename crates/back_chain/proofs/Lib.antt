pub mod First
pub mod Entry
pub mod Chain
pub mod File
