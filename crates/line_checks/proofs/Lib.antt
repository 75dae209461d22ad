-- Laws that other crates use.
pub mod Passed
