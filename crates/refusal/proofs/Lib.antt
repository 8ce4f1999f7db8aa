pub mod Single
pub mod Firsts
pub mod Judged
pub mod Zeroing
pub mod Order
