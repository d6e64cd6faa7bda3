pub mod Effects
pub mod Stepped
pub mod Ticks
pub mod Applied
pub mod Busy
pub mod Held
pub mod Zero
pub mod Devices
