-- The definitions of the theory, in the order in which they build on each other.
pub mod Field
pub mod Rule
pub mod Ordering
pub mod Sweep
pub mod Outcome
pub mod Links
pub mod Linear
pub mod History
