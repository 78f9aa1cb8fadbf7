pub mod LaneLaws
pub mod LeastLaws
