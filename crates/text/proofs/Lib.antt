-- Laws of the definition of text.
pub mod Decimal
pub mod Pieces
pub mod Places
pub mod Found
pub mod Trimming
pub mod Printed
pub mod Puts
