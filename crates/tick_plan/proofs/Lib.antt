pub mod Range
pub mod Reading
pub mod Ticking
pub mod Parts
pub mod OneCore
pub mod OnePlan
pub mod Quiet
pub mod Lending
