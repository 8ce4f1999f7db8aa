pub mod ClearLaws
pub mod TrimLaws
pub mod ListLaws
