pub mod Laws
pub mod Kinds
pub mod Headings
pub mod Sorts
