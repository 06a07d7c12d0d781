pub mod Arcs
pub mod Plans
pub mod Cases
pub mod Firsts
pub mod Words
