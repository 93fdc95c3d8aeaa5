pub mod StreamLemmas
pub mod IdleLemmas
pub mod EndLemmas
