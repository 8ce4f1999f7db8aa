pub mod CountLaws
pub mod MarkedLaws
