-- The laws of the theory.
pub mod Order
pub mod Ordering
pub mod Sweep
pub mod Steps
pub mod Agree
pub mod Compare
pub mod Linear
pub mod History
