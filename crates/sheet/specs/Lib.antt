pub mod Bytes
pub mod Sheet
pub mod Layout
