-- What charging leaves of counters and timelines, and what moves and wakes write into the log.
pub mod Charging
pub mod Log
