pub mod ByteLaws
pub mod HeaderLaws
pub mod SheetLaws
pub mod Reading
