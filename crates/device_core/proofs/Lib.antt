pub mod WrittenLemmas
pub mod MemoryLemmas
pub mod StallLemmas
