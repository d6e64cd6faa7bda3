-- Cored: a check needs no byte of RAM or paper. Turns, Answers: what the functions' proofs cite. Roms: no ROM has a part in taking back. Law: ring's laws. Index: those of the index.
pub mod Cored
pub mod Turns
pub mod Answers
pub mod Roms
pub mod Law
pub mod Index
