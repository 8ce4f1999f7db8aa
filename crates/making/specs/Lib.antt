pub mod Room
pub mod Made
