pub mod OneFile
pub mod Directory
