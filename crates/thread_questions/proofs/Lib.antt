-- What the parts say of the definition's state.
pub mod Facts
