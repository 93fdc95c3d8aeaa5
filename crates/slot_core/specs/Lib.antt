pub use Rattle.proxy_types.specs.ServerIdentity
pub mod Counts
pub mod Totals
