-- Clocks, Newest, Frames: laws of the parts. Invariant: the index kept step by step is the one worked out afresh. IndexBytes: the same of the lent bytes.
-- Answers: what the functions of src/ need.
pub mod Clocks
pub mod Newest
pub mod Frames
pub mod Invariant
pub mod Answers
pub mod IndexBytes
