-- The definition of text: bytes, lines, searches by place, texts in lent buffers.
pub mod Bytes
pub mod Lines
pub mod Searches
pub mod Scan
pub mod Buffers
pub mod Reading
