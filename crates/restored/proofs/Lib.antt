pub mod Times
pub mod Cells
pub mod Parts
pub mod Undoes
pub mod Saves
pub mod Papers
pub mod Notes
pub mod Fits
