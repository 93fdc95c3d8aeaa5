pub mod CutLemmas
pub mod DecimalLemmas
pub mod NameLemmas
pub mod PartLemmas
pub mod SameLemmas
