pub mod Sums
pub mod Tables
pub mod Turns
pub mod Picks
pub mod Levels
pub mod Firsts
pub mod Writes
pub mod Minutes
