pub mod LaneLaws
pub mod SpotLaws
pub mod WithinLaws
pub mod BallotLaws
pub mod LoadLaws
