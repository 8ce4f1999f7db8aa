pub mod Marks
pub mod Valuation
pub mod Replies
