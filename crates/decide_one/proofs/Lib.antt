pub mod OneCore
