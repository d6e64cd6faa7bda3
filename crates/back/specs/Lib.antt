-- Back: the machine that ring runs back, and what taking back gives. Allowed: the states of which ring's laws hold.
pub mod Back
pub mod Allowed
