pub mod Heights
pub mod Views
