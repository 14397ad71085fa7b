pub mod Statement
pub mod Walks
pub mod Tests
pub mod Told
pub mod Handed
pub mod Kept
