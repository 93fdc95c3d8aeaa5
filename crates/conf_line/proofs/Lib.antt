pub mod OptionLemmas
pub mod TableLemmas
