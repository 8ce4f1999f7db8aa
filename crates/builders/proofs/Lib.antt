pub mod ListLaws
pub mod BuilderLaws
pub mod ListedCases
pub mod Built
