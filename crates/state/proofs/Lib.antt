pub mod Whole
pub mod Firsts
pub mod Doing
pub mod Words
