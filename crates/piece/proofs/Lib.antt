pub mod Agreed
pub mod Common
pub mod Local
pub mod LocalPieces
pub mod LocalByte
