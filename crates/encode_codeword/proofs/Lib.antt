pub mod Lanes
pub mod Doubling
