pub mod LastWrite
