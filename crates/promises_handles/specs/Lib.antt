pub mod HandleBytes
