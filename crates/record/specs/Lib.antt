-- Layout: THE layout, and the record that bytes say. Keeps: which bytes keep the layout, and of which records they are.
pub mod Layout
pub mod Keeps
