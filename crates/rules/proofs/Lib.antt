pub mod Given
pub mod Each
pub mod Rising
pub mod Orders
