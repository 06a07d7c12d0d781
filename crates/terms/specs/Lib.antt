pub mod Refusals
pub mod Routes
pub mod Verdicts
