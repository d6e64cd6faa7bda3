pub mod Offsets
pub mod Stores
