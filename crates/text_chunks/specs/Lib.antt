-- What a reader must believe, in reading order; Internal only serves the code and the proofs.
pub mod Chunks
pub mod Kept
pub mod Reading
pub mod Internal
