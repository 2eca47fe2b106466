-- Laws of the report program's lines.
pub mod Lines
pub mod Feeding
pub mod Making
pub mod Whole
