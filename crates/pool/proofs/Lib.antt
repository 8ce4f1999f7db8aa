pub mod FindLaws
pub mod PoolLaws
pub mod WholeLaws
