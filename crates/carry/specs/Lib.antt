pub mod Carry
pub mod Whole
