pub mod Steps
pub mod OnDisk
