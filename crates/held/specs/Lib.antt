pub mod Held
pub mod Trees
