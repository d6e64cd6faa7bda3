pub mod Sum
pub mod Logic
pub mod Shift
pub mod Condition
pub mod Jumps
pub mod HiLo
pub mod Merge
