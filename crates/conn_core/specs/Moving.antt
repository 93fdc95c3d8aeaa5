-- Another server for a connection whose server is out of reach.
use Rattle.std.specs.Prelude.{ℕ, Option, Some, IfSome, option_map, ◌≡◌}
use Rattle.conn_model.specs.declared.event.ConnId.{ConnId}
use Rattle.conn_model.specs.declared.plain.Assignment.{Assignment}
use Rattle.conn_model.specs.declared.plain.Phase.TheVariants.{Offered}
use Rattle.conn_model.specs.declared.plain.Plain.{Plain}
use Rattle.conn_model.specs.declared.plain.Row.{Row}
use Rattle.conn_model.specs.Answer.{other_server, row_at}
use Rattle.conn_rows.specs.declared.row.PendingOffer.{PendingOffer}
use Rattle.conn_core.specs.Outcome.{offer_of}
use Rattle.conn_core.specs.declared.machine.MovedOffer.{MovedOffer}
use Rattle.conn_core.specs.declared.outcome.Offer.{Offer}

-- what is known of a connection that was offered a server is said of that row
pub record IsPendingIn (pending : PendingOffer) (row : Row) (given : Assignment) : Type 0 where
  pub version : pending.version ≡ row.version
  pub line : pending.line ≡ given.line
  pub judged : pending.judged ≡ given.judged
  pub failed : pending.failed.now ≡ given.failed

-- the offer of another server of its backend, if there is one
abbrev pub other_offer : Plain → Row → Assignment → Option Offer
other_offer p row given = option_map (λ other. offer_of other.number other.server given.judged) (other_server p row given)

-- a connection that was offered a server may be moved to that one, by the version that judges it, or to none
pub record HasOther (p : Plain) (id : ConnId) (moved : Option MovedOffer) : Type 0 where
  pub row : Row
  pub given : Assignment
  pub row_is : row_at p.frontends id ≡ Some row
  pub offered : row.phase ≡ Offered given
  pub version : IfSome moved (λ m. m.version ≡ row.version)
  pub other : option_map (λ m. m.offer) moved ≡ other_offer p row given
