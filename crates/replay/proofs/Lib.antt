pub mod Chains
pub mod Encoded
pub mod Every
pub mod Framed
pub mod Lists
