-- What the values of the program stand for.
pub mod Reading
