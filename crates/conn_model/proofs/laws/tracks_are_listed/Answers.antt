use Rattle.std.specs.Prelude.{true, List, ℕ, Some, ◌≡◌}
use Rattle.std.specs.List.{list_any, AllByRecursion}
use Rattle.plan_types.specs.declared.plan.Plan.{Plan}
use Rattle.conn_model.specs.declared.event.ConnId.{ConnId}
use Rattle.conn_model.specs.declared.plain.Row.{Row}
use Rattle.conn_model.specs.Answer.{row_at}
use Rattle.conn_model.specs.History.{after, opening, tables_of, Entry, IsLegal}
use Rattle.conn_model.specs.Tables.{is_listed, same_id, IsTrackListed}
use Rattle.conn_model.proofs.Lists.{all-more}
use Rattle.conn_model.proofs.TrackSteps.{row_tracks}
use Rattle.conn_model.proofs.Well.{history_well}
use Rattle.conn_model.proofs.laws.tracks_are_listed.Goals as goal

listed : (plan : Plan) (last : ℕ) (h : List Entry) → IsLegal (opening plan last) h → (id : ConnId) (row : Row) → row_at (after (opening plan last) h).frontends id ≡ Some row →
    AllByRecursion (IsTrackListed (tables_of (after (opening plan last) h).versions row.version) (after (opening plan last) h).tables) row.tracks
listed plan last h legal id row there = row_tracks (after (opening plan last) h) (history_well plan last h legal).tracks id row there

pub returns : goal.returns
returns c = record {
  key = λ plan last h legal id row there.
      all-more (IsTrackListed (tables_of (after (opening plan last) h).versions row.version) (after (opening plan last) h).tables) (λ track. is_listed (after (opening plan last) h).tables track ≡ true) row.tracks
      (λ track is. is.key) (listed plan last h legal id row there);
  table = λ plan last h legal id row there.
      all-more (IsTrackListed (tables_of (after (opening plan last) h).versions row.version) (after (opening plan last) h).tables)
      (λ track. list_any (same_id track.table) (tables_of (after (opening plan last) h).versions row.version) ≡ true) row.tracks (λ track is. is.table) (listed plan last h legal id row there);
}
