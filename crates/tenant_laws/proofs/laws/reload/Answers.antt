use Rattle.std.proofs.Common.{sym, ◌∙◌}
use Rattle.tenant_laws.proofs.Later.{reloads-same}
use Rattle.tenant_laws.proofs.Reload.{reload-step}
use Rattle.tenant_laws.proofs.laws.reload.Goals as goal

pub returns : goal.returns
returns c = record {
  answers = reloads-same;
  states = λ part p q sound sound' agree moment text reply keeps is.
      reload-step part p q sound sound' agree moment text reply keeps is (sym (reloads-same part p q sound sound' agree moment text) ∙ is);
}
