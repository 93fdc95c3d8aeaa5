pub mod Judging
pub mod Meaning
