pub mod Cut
pub mod Decimal
pub mod Names
pub mod Parts
