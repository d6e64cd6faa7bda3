pub mod Backing
pub mod Theorems
pub mod Keeps
