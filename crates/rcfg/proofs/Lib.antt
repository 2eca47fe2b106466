-- Laws of the settings' text.
pub mod RoundTrip
pub mod Settling
