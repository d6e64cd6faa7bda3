pub mod Settings
pub mod Readings
pub mod Forms
pub mod Refused
