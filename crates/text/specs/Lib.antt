-- What the writers of text promise.
pub mod Writes
