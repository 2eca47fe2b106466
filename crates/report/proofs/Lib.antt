pub mod Pieces
pub mod Marking
pub mod Keeping
pub mod Taking
