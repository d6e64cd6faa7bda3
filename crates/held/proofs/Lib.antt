pub mod Board
pub mod CoreWords
pub mod Stored
pub mod LineHeld
pub mod Soon
