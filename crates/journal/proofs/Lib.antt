pub mod TwoParts
pub mod HeldRecord
