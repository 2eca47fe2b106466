-- Laws that proofs here and proofs of callers cite.
pub mod RingLaws
pub mod EntryLaws
pub mod EventLaws
pub mod TimelineLaws
