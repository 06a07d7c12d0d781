pub mod Pricings
pub mod Keeping
