-- Laws that the proofs of the functions share.
pub mod Local
pub mod Target
