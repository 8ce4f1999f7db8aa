pub mod Checks
pub mod Answers
pub mod Gathering
pub mod MarkLaws
pub mod Listing
pub mod OneToOne
pub mod Laws
