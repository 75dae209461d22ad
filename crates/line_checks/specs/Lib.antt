-- What the contract cites beside the model.
pub mod Line
