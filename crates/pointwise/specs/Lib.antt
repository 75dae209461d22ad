-- What the contracts cite beside the theory.
pub mod Relaxation
