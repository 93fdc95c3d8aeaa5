pub mod LackLemmas
pub mod ReloadLemmas
pub mod EventLemmas
pub mod LongLemmas
pub mod DigitLemmas
pub mod LineLemmas
pub mod FrontLemmas
