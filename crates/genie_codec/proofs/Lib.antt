pub mod WholeSlice
pub mod Fitting
