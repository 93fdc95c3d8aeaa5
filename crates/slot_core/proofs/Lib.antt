pub mod AddLemmas
pub mod CountLemmas
pub mod FindLemmas
pub mod TotalLemmas
