pub mod CallLemmas
pub mod BlockLemmas
pub mod RefusalLemmas
pub mod OutsideLemmas
pub mod HeldLemmas
pub mod StopLemmas
