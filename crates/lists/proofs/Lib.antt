pub mod EntryLaws
pub mod Listed
