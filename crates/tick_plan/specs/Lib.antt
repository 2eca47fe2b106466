pub mod DoneWith
pub mod Plan
