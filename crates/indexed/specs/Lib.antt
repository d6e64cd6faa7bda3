-- An index of frames beside any machine with words of RAM, whose records say the places written with their old words and distances. Read in this order:
-- Ahead (such a machine as it runs), Base (and back), Index (the index worked out afresh).
pub mod Ahead
pub mod Base
pub mod Index
