pub mod Script
pub mod Replies
pub mod Fronts
