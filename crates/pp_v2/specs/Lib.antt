pub mod Block
pub mod Head
