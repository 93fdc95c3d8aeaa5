pub mod Lines
pub mod Tables
pub mod Sound
pub mod Moves
