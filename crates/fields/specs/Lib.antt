-- What the values of the program stand for, and the two fields of a value.
pub mod Fields
pub mod Reading
