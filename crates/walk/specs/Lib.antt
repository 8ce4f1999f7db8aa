pub mod Path
pub mod Step
pub mod Walk
