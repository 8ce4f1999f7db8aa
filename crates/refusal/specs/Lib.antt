pub mod Number
pub mod Limits
pub mod Verdict
pub mod Buffers
pub mod First
pub mod Told
pub mod Shown
