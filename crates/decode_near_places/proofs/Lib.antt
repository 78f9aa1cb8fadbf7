pub mod DifferingLaws
