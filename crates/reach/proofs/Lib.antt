pub mod Landing
pub mod Laws
pub mod PlainLands
pub mod Single
