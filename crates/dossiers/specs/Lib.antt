pub mod Tolds
pub mod Namings
pub mod Works
pub mod Opened
pub mod Dossiers
