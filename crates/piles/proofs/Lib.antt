pub mod Marking
pub mod Heights
pub mod Views
