pub mod EntryLemmas
pub mod ItemLemmas
pub mod PlaceLemmas
pub mod TreeLemmas
