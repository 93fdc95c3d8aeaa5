pub mod Unended
pub mod Lines
