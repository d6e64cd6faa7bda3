-- OnHand, Words: the records on hand, and what is read of one. Latest, Pcs: the questions about a list. Loops: what the loops keep.
pub mod OnHand
pub mod Words
pub mod Latest
pub mod Pcs
pub mod Loops
pub mod Guards
