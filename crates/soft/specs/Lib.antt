-- What a reader must believe, in reading order, the values of a soft vote from the crates below; Internal only serves the code.
pub use Rattle.soft_vote_sums.specs.Pair
pub use Rattle.soft_decision.specs.Voted
pub mod Internal
