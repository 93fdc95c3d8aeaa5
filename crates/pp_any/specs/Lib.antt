pub mod Faults
pub mod Fed
pub mod Header
pub mod NextPiece
pub mod Rest
pub mod Status
