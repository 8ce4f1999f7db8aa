pub mod NodeLaws
pub mod InspectLaws
pub mod CaseLaws
pub mod AdmissionLaws
pub mod InspectionSingle
pub mod Inspected
pub mod Evaluated
pub mod TableLaws
