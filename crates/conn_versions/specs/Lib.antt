pub mod Versions
pub mod Judged
pub mod Slots
pub mod Picks
pub mod Barred
pub mod Kept
