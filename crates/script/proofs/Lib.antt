-- Laws of the definition of the report.
pub mod Calling
pub mod Streams
pub mod Lengths
pub mod Range
pub mod Switches
pub mod Consistency
pub mod Prints
pub mod Counts
pub mod Room
pub mod Scan
