pub mod Inspection
pub mod Case
