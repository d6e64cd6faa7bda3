pub mod Codes
pub mod Access
pub mod Check
pub mod Translate
pub mod Bus
pub mod Reach
pub mod Plain
