pub mod RowByRow
pub mod Numbers
