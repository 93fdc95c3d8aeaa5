pub mod CarryLemmas
pub mod GatherLemmas
