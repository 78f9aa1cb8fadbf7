pub mod EightLaws
pub mod SlicesLaws
