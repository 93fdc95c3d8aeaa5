pub mod StreamLemmas
pub mod StateLemmas
pub mod PieceLemmas
pub mod AcceptLemmas
pub mod JudgedLemmas
pub mod DeliveryLemmas
pub mod ListenerLemmas
