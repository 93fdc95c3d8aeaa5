pub mod Crew
pub mod Leases
pub mod Outlets
pub mod Writers
pub mod Pieces
