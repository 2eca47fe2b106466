-- What a call line says.
pub mod Saying
