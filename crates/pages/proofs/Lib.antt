pub mod Knows
pub mod Lands
