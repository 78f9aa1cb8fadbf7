-- What the functions' proofs share.
pub mod Range
pub mod Refusals
pub mod ReadLaws
