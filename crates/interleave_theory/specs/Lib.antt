-- What a reader must believe, in reading order; Internal only serves the code and the proofs.
pub mod Place
pub mod Group
pub mod Internal
