pub mod NearLands
pub mod Plain
pub mod InParts
pub mod Registers
