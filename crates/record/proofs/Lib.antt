pub mod Stored
pub mod RoundTrip
pub mod Ranges
pub mod Later
pub mod Laid
