pub mod Config
pub mod Rising
pub mod Few
pub mod Sections
pub mod Sound
pub mod Kept
pub mod Marks
