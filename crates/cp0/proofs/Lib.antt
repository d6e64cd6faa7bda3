pub mod Laws
pub mod Parts
pub mod StatusBits
pub mod Writes
pub mod Lines
pub mod Randoms
pub mod Entries
