pub mod RunLaws
pub mod JoinLaws
pub mod Theorem
pub mod Example
