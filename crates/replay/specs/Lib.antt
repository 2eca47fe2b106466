pub mod Chain
pub mod Encoding
pub mod Replay
