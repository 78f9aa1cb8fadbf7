pub mod PutLaws
pub mod DecimalLaws
