pub mod Fits
pub mod LogicBits
pub mod ShiftBits
