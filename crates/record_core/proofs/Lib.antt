pub mod Appending
pub mod Chaining
