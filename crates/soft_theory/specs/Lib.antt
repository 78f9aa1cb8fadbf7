-- What a reader must believe, in reading order; Internal only serves the code and the proofs.
pub mod Numbers
pub mod Complex
pub mod Decision
pub mod Soft
pub mod Internal
