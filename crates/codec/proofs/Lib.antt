pub mod Accepted
pub mod ReadLaws
pub mod Answers
