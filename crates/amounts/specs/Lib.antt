pub mod Multipliers
pub mod Amounts
pub mod Sums
pub mod Laws
