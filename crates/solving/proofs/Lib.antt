pub mod PushLaws
pub mod RunLaws
pub mod SolveLaws
