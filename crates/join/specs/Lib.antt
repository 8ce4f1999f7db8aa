pub mod Trees
pub mod Task
pub mod Memo
pub mod Joining
pub mod Jobs
