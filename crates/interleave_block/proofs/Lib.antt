pub mod CopyLaws
pub mod BlockLaws
pub mod RoundLaws
