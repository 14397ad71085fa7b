pub mod Records
pub mod Cut
pub mod Load
pub mod Cases
