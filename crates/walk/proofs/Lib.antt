pub mod PathLaws
pub mod Holding
pub mod StartLaws
pub mod Ways
pub mod KthLaws
pub mod WalkSingle
