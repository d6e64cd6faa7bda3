pub mod Packing
pub mod Passed
pub mod Rows
