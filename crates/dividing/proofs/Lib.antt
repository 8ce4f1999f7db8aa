pub mod FitLaws
pub mod CoreLaws
pub mod RestLaws
pub mod MarkLaws
pub mod DivideLaws
