pub mod Slots
pub mod Spelling
pub mod Granules
pub mod Entries
pub mod Amounts
