-- Laws and theorems about whole samples.
pub mod Integers
pub mod WholeLaws
pub mod SumsExact
pub mod DecisionExact
pub mod ReadExact
pub mod Leans
pub mod LeaningRead
pub mod Clean
