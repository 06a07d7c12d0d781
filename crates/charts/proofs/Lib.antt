pub mod Tables
pub mod Accepted
