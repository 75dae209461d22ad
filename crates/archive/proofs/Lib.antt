-- Laws of what is told.
pub mod Told
pub mod Demand
