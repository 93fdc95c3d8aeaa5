pub mod Deciding
pub mod Moving
