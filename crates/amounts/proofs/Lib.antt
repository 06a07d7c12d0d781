pub mod Products
pub mod Priced
pub mod Exchange
pub mod Lowest
pub mod Sums
pub mod Sizes
pub mod Passed
