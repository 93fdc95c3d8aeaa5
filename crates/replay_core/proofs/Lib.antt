pub mod FrontLemmas
pub mod Devices
pub mod ReadLemmas
pub mod ContinueLemmas
pub mod ReachLemmas
pub mod OutcomeLemmas
pub mod EndLemmas
pub mod PlanLemmas
