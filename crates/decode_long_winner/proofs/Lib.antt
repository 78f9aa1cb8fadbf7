pub mod CounterLaws
pub mod WinnerLaws
