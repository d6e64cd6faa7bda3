pub mod Codes
pub mod Operand
pub mod Operate
pub mod HiLo
pub mod Branch
pub mod Control
pub mod Access
pub mod Intend
