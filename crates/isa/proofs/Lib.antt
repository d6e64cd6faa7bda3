pub mod Words
pub mod Listed
pub mod RoundTrip
pub mod Again
