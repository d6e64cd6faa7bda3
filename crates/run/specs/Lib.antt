pub mod Run
pub mod Spin
