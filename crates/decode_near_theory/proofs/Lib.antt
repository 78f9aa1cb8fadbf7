pub mod Agreement
pub mod Outside
