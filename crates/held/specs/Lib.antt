pub mod Board
pub mod Core
pub mod Line
