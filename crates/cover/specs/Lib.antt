pub mod Cover
pub mod Compare
