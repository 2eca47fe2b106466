-- The definition of the report: scripts, what is printed, line by line and byte by byte; cases computed from it.
pub mod Script
pub mod Report
pub mod Stream
pub mod Cases
pub mod Invariants
