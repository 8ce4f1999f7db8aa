pub mod ListedLaws
pub mod StoreLaws
pub mod CountLaws
pub mod ListLaws
pub mod ClauseLaws
