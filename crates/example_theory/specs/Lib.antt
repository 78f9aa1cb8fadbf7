pub mod Case
pub mod Examples
