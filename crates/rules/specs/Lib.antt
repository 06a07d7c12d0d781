pub mod Rules
pub mod Makes
pub mod Ranges
pub mod Lawful
