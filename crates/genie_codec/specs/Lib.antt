pub mod Codec
pub mod Words
