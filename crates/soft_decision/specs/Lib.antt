-- What a reader must believe, in reading order; Internal only serves the code.
pub mod Voted
pub mod Internal
