pub mod Head
pub mod Digit
pub mod Number
pub mod Laid
pub mod Spelt
