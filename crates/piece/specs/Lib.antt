pub mod Mark
pub mod Behind
