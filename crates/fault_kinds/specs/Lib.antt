pub mod Reach
pub mod Overlap
pub mod Tests
pub mod Noted
