pub mod Sets
pub mod Sealing
pub mod Meant
