pub mod Meaning
pub mod Names
pub use Rattle.plan_core.specs.Binds
