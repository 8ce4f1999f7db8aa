pub mod MillLaws
