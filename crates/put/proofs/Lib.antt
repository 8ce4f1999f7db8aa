pub mod SplitLaws
pub mod SettleLaws
pub mod PutLaws
