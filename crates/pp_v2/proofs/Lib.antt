mod Bytes
pub mod Written
