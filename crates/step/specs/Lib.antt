pub mod World
pub mod Tick
pub mod Apply
pub mod Parts
pub mod Step
pub mod Note
pub mod Held
