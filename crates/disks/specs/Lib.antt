pub mod Tick
pub mod Command
pub mod Rules
pub mod Saved
pub mod Words
pub mod Cause
