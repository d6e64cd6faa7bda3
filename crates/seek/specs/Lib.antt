-- OnHand: the records on hand as a list. Latest, Pcs: the questions about such a list. Seek: what is answered from the lent bytes.
pub mod OnHand
pub mod Latest
pub mod Pcs
pub mod Seek
