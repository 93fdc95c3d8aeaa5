pub mod Explained
pub mod Listeners
pub mod Text
pub mod Tried
