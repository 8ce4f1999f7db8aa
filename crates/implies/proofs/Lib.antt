pub mod ImpliesLaws
