pub mod Logging
pub mod OneRecord
pub mod Refusing
pub mod Reprioritising
pub mod Spawning
pub mod Owning
pub mod Joining
pub mod Yielding
