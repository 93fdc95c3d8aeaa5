pub mod TriedLemmas
pub mod OnceLemmas
pub mod OpeningLemmas
