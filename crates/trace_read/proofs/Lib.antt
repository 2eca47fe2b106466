pub mod Dividing
pub mod Saying
pub mod Reading
