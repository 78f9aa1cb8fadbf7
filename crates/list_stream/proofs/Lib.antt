pub mod StreamLaws
pub mod RoundLaws
