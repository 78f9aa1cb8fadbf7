pub mod Refusal
pub mod Internal
