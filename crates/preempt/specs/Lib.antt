pub mod Preemptions
