-- How lent words are read: a ring of entries, events in a ring, segments in a ring.
pub mod Ring
pub mod Events
pub mod Timeline
