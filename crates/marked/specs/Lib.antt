-- World: the machine that an example takes one step on. Marked: THE table.
pub mod World
pub mod Marked
