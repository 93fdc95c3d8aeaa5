pub mod Conns
pub mod Dues
pub mod Places
