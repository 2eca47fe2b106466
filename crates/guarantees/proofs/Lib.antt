-- The guarantees, proved of the definition alone.
pub mod PhaseMoves
pub mod Invariants
pub mod Queue
pub mod Stay
pub mod Wait
pub mod History
pub mod RunTicks
pub mod Holders
pub mod StayRun
pub mod Bounds
