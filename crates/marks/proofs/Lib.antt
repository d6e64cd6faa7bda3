-- Answers: what the code's answers come to, over plain values. Clock: a tick, as the index counts it.
pub mod Answers
pub mod Clock
