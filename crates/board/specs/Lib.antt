pub mod Places
pub mod Rom
