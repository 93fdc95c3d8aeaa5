pub mod Names
pub mod Networks
pub mod Reading
pub mod TestValue
pub mod Tokens
pub mod Truth
