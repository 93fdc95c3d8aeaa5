pub mod RangeLemmas
pub mod BlockLemmas
