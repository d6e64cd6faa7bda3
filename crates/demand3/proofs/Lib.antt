pub mod Boot
pub mod Carried
pub mod Demand3
