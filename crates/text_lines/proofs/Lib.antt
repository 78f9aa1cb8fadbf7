pub mod LineLaws
pub mod EndingLaws
