pub mod Lent
pub mod Part
pub mod Fetch
pub mod Settle
pub mod Decide
pub mod Range
