pub mod GroupLemmas
pub mod NetworkLemmas
pub mod SplitLemmas
pub mod TruthLemmas
