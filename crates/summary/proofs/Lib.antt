-- The sums are small, and each figure is the nearest binary64 value, no NaN.
pub mod Totaling
pub mod Dividing
pub mod Nearest
pub mod Patterns
