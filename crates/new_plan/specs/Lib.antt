pub mod First
pub mod Made
