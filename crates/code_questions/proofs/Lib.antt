pub mod Top
pub mod Whole
pub mod RefusalLaws
