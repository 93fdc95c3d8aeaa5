pub mod PlaceLemmas
pub mod CounterLemmas
pub mod TableLemmas
pub mod BegunTables
pub mod Forgotten
