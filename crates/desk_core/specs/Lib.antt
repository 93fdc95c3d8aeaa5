pub mod Books
pub mod Calls
pub mod Driving
pub mod Leased
pub mod Receipts
pub mod Settling
