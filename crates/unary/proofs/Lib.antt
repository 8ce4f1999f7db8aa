pub mod EntryLaws
pub mod MarkLaws
pub mod Operated
