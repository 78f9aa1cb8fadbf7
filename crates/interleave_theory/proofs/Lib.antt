pub mod PlaceLaws
pub mod RefusalLaws
pub mod GroupLaws
