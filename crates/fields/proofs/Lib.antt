-- Laws of the fields of a value.
pub mod Commas
