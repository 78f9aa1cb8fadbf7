-- Laws of specs/.
pub mod FoldLaws
pub mod SumsLaws
pub mod DecisionLaws
