-- Tells: from what each record says to what the answers tell. Word: undoing a record puts back the word that it says. Back: the answers over taking back.
-- History: over the steps that a ring holds. Clocks: the clock of a step on hand. Calls: seek's answers over any calls after a reset. Asked: last_write over
-- taking back. LastWrite: last_write over any calls after a reset, THE THEOREM.
pub mod Tells
pub mod Word
pub mod Back
pub mod History
pub mod Clocks
pub mod Calls
pub mod Asked
pub mod LastWrite
