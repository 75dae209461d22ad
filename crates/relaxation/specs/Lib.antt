-- What the contracts cite beside the model and the theory.
pub mod Rule
