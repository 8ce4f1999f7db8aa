pub mod AdmitLaws
pub mod EntryLaws
