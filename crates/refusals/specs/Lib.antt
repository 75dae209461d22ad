-- What the contracts cite beside the model.
pub mod Tests
