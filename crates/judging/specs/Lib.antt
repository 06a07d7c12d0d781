pub mod Cases
pub mod Calls
pub mod Theorem
pub mod Answers
pub mod Example
