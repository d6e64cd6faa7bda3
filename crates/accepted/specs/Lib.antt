-- After: the machine and the buffers of an end. Left: what a call leaves.
pub mod After
pub mod Left
