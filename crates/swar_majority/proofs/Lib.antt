pub mod BitLaws
pub mod MostLaws
