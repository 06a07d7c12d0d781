pub mod Items
pub mod Books
pub mod Stages
pub mod Replies
pub mod Meanings
