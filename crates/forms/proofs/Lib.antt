pub mod LocalLook
pub mod Letters
