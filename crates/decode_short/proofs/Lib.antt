pub mod MarginLaws
pub mod SettleLaws
