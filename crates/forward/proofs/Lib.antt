pub mod Running
pub mod Theorems
pub mod Steps
pub mod Keeps
pub mod Matches
