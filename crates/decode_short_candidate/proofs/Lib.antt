pub mod LaneVotes
pub mod ChoiceLaws
pub mod CandidateLaws
