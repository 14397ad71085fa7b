pub mod FromContract
