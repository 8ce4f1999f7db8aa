pub mod CarryLaws
pub mod AddLaws
pub mod BuildLaws
