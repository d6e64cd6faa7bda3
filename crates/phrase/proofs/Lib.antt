pub mod Widths
pub mod Showing
