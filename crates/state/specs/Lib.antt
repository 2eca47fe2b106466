pub mod Asked
pub mod Done
pub mod Memory
pub mod State
