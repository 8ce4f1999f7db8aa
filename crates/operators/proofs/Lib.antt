pub mod OperatorLaws
pub mod OperatesLaws
pub mod Operated
