pub mod Areas
pub mod Windows
