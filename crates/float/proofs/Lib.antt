-- Laws that the proofs of the functions share.
mod Floor
