pub mod LineLemmas
pub mod WrittenLemmas
