pub use Rattle.plan_core.proofs.BindLemmas
