pub mod Sum
pub mod Payload
pub mod Heard
pub mod Within
pub mod Said
pub mod Course
