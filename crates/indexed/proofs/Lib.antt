-- Kept: the theorem. Means: what it says of RAM. Lengths: the index stays as long as it was. Toy: a machine that keeps the laws.
pub mod Kept
pub mod Means
pub mod Lengths
pub mod Toy
