pub mod Offers
pub mod Reached
pub mod Working
