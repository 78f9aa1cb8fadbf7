-- What a reader must believe, in reading order; Internal only serves the code.
pub mod Text
pub mod Internal
