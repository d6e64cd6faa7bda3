-- Index: what the index of document 02, L6, asks of the machine. Steps: which entries a step and a step taken back change, for the code.
pub mod Index
pub mod Steps
