-- Answers: for the code. Theorems: what the statement amounts to.
pub mod Answers
pub mod Theorems
