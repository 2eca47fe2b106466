-- Laws of the policies' words.
pub mod Words
