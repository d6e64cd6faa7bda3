pub mod Words
pub mod Form
pub mod Fresh
pub mod Look
pub mod Help
