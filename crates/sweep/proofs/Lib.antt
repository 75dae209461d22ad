-- Laws that the proofs of the functions, and other crates, share.
pub mod Turn
pub mod Film
