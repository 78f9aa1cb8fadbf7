-- What a reader must believe, in reading order; Internal only serves the code.
pub mod Listing
pub mod Internal
