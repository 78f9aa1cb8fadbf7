pub mod PlaceLaws
pub mod VerifyLaws
