-- Laws of what the functions write, and how it stands in the definition: Figures has what callers cite.
pub mod Counting
pub mod Logging
pub mod Timelines
pub mod Figures
