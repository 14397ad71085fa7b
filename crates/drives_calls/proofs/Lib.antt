pub mod OnDrive
pub mod Named
