-- What the report's texts are made of, and how long they are.
pub mod Means
pub mod Rooms
pub mod Listing
