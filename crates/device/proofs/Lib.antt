pub mod Each
pub mod All
pub mod Made
pub mod Places
pub mod Passed
pub mod Ending
pub mod Keeping
pub mod Stored
