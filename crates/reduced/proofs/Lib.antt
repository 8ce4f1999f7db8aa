pub mod ReachLaws
pub mod ReducedLaws
pub mod CheckLaws
pub mod Examples
