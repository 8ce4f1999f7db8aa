pub mod Replies
pub mod Part
