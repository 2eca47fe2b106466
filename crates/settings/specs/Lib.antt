-- The definition of the settings: the policies, the three settings, their text in lent buffers.
pub mod Policy
pub mod Settings
pub mod Buffers
pub mod Reading
