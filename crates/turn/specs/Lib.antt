-- Buffers: what the host lends. Turn: one step with its record.
pub mod Buffers
pub mod Turn
