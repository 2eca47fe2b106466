pub mod Marking
pub mod MarkCalls
pub mod Passing
