pub mod Deciding
pub mod Sums
pub mod Reporting
pub mod Lines
pub mod Noting
pub mod Whatif
