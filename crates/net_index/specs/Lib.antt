pub mod Ranges
pub mod Index
