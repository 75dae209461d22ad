-- Laws that the proofs of the functions, and other crates, share.
pub mod Pull
pub mod Neighbours
pub mod Limited
pub mod Fill
