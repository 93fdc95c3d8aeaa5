pub mod BindLemmas
pub mod CountLemmas
pub mod FaultLemmas
pub mod LineLemmas
pub mod NameLemmas
pub mod SoundLemmas
