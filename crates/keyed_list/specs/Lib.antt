pub mod Boxes
pub mod Entries
pub mod Kept
pub mod Lends
