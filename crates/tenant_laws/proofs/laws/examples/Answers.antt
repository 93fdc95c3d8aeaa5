use Rattle.std.specs.Prelude.{refl}
use Rattle.tenant_laws.proofs.laws.examples.Goals as goal

pub returns : goal.returns
returns c = record {
  apart = (refl, refl);
  table = (refl, refl, refl);
  backend = (refl, refl);
  count = (refl, refl);
  unseen = (refl, refl);
  checked = (refl, refl);
  report_unseen = (refl, refl, refl);
  report_seen = (refl, refl);
  seen_in_table = (refl, refl);
  seen_in_backend = (refl, refl);
  seen_in_count = (refl, refl);
}
