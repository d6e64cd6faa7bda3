pub mod Entry
pub mod Search
pub mod Index
pub mod Doubled
