pub mod KeepLaws
pub mod LineLaws
pub mod ChunkLaws
pub mod StepLaws
pub mod CountLaws
pub mod PartLaws
pub mod ReadingLaws
