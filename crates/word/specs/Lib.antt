pub mod Lists
pub mod Map
pub mod Number
pub mod Big
pub mod Little
pub mod Mask
pub mod Sizes
