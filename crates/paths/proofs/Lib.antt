pub mod PathLaws
pub mod Once
pub mod Sums
pub mod Agrees
