pub mod Status
pub mod Replay
pub mod Turns
pub mod Progress
pub mod Reading
pub mod Check
