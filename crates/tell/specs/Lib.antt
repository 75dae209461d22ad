-- What the numbers that a caller in C is told say of a call's answer.
pub mod Numbers
