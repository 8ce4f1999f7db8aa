pub mod LeafLaws
pub mod CarryLaws
pub mod WholeLaws
