pub mod Offset
pub mod Words
pub mod Store
pub mod Stored
