-- Proofs about the definition alone.
pub mod PhaseLaws
pub mod Refusals
pub mod LoopLaws
pub mod Preempt
pub mod ThreadStates
pub mod Placement
pub mod Bounded
pub mod Figures
pub mod Back
