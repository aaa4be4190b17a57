pub mod Reading
pub mod Items
pub mod Views
pub mod Writing
pub mod Replies
