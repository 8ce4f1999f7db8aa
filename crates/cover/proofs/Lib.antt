pub mod FirstLaws
pub mod DescentLaws
pub mod AdmitLaws
pub mod CompareLaws
pub mod CoverLaws
pub mod Checked
