pub mod RecordLemmas
pub mod OutletLemmas
pub mod SinkLemmas
pub mod CrewLemmas
pub mod PieceLemmas
