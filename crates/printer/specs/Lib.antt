pub mod Tick
pub mod Saved
pub mod Command
pub mod Rules
pub mod Cause
