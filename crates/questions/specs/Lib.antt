-- What the questions hand out, and what it stands for.
pub mod Questions
pub mod Reading
