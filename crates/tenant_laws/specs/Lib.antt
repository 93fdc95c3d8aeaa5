pub mod Parts
pub mod Agreement
pub mod Runs
pub mod Samples
