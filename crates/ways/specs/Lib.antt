pub mod Amounts
pub mod Ways
pub mod Directions
pub mod Traces
pub mod Sums
pub mod Minutes
