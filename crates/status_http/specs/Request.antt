-- What a request asks for.
use Rattle.std.specs.Prelude.{◌≡◌, ◌==◌, ℕ, List, Option, codes, position, take}
use Rattle.std.specs.Option.{option_map_or}
use Rattle.httparse.specs.Grammar.{ReadsRequest, RequestHead}

-- where the query of a target begins, which is at its first question mark
abbrev pub query_place : List ℕ → Option ℕ
query_place target = position (λ byte. byte == 63) target

-- the path of a target: all before its query
abbrev pub path_in : List ℕ → List ℕ
path_in target = option_map_or (λ end. take end target) (query_place target) target

-- bytes that begin with a request for the state, which is `GET /metrics`
pub record AsksForState (bytes : List ℕ) : Type 0 where
  pub head : RequestHead
  pub rest : List ℕ
  pub reads : ReadsRequest bytes head rest
  pub method : head.method ≡ codes "GET"
  pub path : path_in head.target ≡ codes "/metrics"
