pub mod JudgingLemmas
pub mod SceneLemmas
pub mod SlotLemmas
