pub mod Maps
pub mod SlotBySlot
pub mod Order
pub mod Bridge
pub mod Directory
pub mod Whole
