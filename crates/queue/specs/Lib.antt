pub mod Words
pub mod Ready
