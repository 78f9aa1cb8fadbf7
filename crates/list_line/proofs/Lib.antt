pub mod TextLaws
pub mod SlotLaws
pub mod OverLaws
