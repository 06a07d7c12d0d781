pub mod Namings
pub mod Kept
pub mod Worked
pub mod Whole
