pub mod Clear
pub mod Keeps
pub mod Marks
pub mod OnDisk
