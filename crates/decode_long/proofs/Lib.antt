pub mod FirstLaws
pub mod ConstantLaws
pub mod LongLaws
pub mod ReadLaws
