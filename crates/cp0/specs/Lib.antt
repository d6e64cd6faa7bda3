pub mod Privilege
pub mod Stack
pub mod Word
pub mod Registers
pub mod Written
pub mod Interrupt
pub mod Random
pub mod Entry
