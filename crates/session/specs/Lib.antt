-- The definitions of both sides under one name, and those of what a call answers.
pub use Rattle.session_slot.specs.Slot
pub use Rattle.session_sender.specs.Sending
pub use Rattle.session_receiver.specs.Receiving
pub use Rattle.session_reference.specs.Reference
pub use Rattle.session_slot.specs.Refusal
