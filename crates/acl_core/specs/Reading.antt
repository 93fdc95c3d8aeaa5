-- What a test and a condition are, by their words (HAProxy manual, "using ACLs and fetching samples").
use Rattle.std.specs.Prelude.{ℕ, Bool, true, false, not, ◌&&◌, ◌||◌, ◌==◌, List, [], ◌∷◌, length, Option, Some, None, Result, Ok, Err, codes, if◌then◌else◌}
use Rattle.std.specs.List.{slice_split}
use Rattle.std.specs.Str.{bytes_eq}
use Rattle.list_core.specs.Each.{◌>>=◌, each}
use Rattle.addr_core.specs.declared.reading.AddrFault.{AddrFault}
use Rattle.addr_core.specs.Prefix.{Prefix}
use Rattle.addr_core.specs.Text.{net_of}
use Rattle.text_core.specs.Cut.{cut}
use Rattle.text_core.specs.Names.{is_name, place_of}
use Rattle.text_core.specs.Decimal.{number_of}
use Rattle.acl_core.specs.declared.fault.AclFault.{AclFault}
use Rattle.acl_core.specs.declared.fault.AclFault.TheVariants.{UnknownCriterion, BadPattern, NoPattern, UnknownName, BadBraces, EmptyGroup, BadName}
use Rattle.acl_core.specs.declared.criterion.Criterion.{Criterion}
use Rattle.acl_core.specs.declared.criterion.Criterion.TheVariants as criteria
use Rattle.acl_core.specs.declared.criterion.Operator.{Operator}
use Rattle.acl_core.specs.declared.criterion.Operator.TheVariants.{Equal, AtLeast, Above, AtMost, Below}
use Rattle.acl_core.specs.declared.criterion.Pattern.{Pattern}
use Rattle.acl_core.specs.declared.criterion.Pattern.TheVariants as patterns
use Rattle.acl_core.specs.TestValue.{TestValue}
use Rattle.acl_core.specs.declared.condition.Operand.{Operand}
use Rattle.acl_core.specs.declared.condition.Operand.TheVariants as operands
use Rattle.acl_core.specs.declared.token.Token.{Token}
use Rattle.acl_core.specs.declared.token.Token.TheVariants as tokens
use Rattle.acl_core.specs.Tokens.{tokens_of, is_not, is_or}
use Rattle.acl_core.specs.declared.condition.Term.{Term}
use Rattle.acl_core.specs.declared.condition.Cond.{Cond}
use Rattle.acl_core.specs.declared.reading.Form.{Form}
use Rattle.acl_core.specs.declared.reading.Form.TheVariants.{Networks, Ranges, Bounds}

-- Values.

abbrev pub greatest : ℕ
greatest = 0xFFFF_FFFF_FFFF_FFFF

abbrev pub network_of : Result Prefix AddrFault → Result Pattern AclFault
network_of (Err fault) = Err BadPattern
network_of (Ok net) = Ok (patterns.Network net)

abbrev pub number_or_fault : Option ℕ → Result ℕ AclFault
number_or_fault None = Err BadPattern
number_or_fault (Some n) = Ok n

abbrev pub number_in : List ℕ → Result ℕ AclFault
number_in word = number_or_fault (number_of word greatest)

-- one end of a range, where it is not left out
abbrev pub end_in : ℕ → List ℕ → Result ℕ AclFault
end_in absent word = if length word == 0 then Ok absent else number_in word

-- `min:max`, `min:` or `:max`
abbrev pub range_between : List ℕ → List ℕ → Result Pattern AclFault
range_between low high =
    if (length low == 0) && (length high == 0) then Err BadPattern else do
      least ← end_in 0 low
      most ← end_in greatest high
      Ok (patterns.Within least most)

-- a number alone, or the range of the texts before and after a colon
abbrev pub range_in : List ℕ → Option (List ℕ × List ℕ) → Result Pattern AclFault
range_in word None = do
  n ← number_in word
  Ok (patterns.Within n n)
range_in word (Some ends) = range_between ends.0 ends.1

-- a number alone, or a range by its first colon: 58 is the colon
abbrev pub range_of : List ℕ → Result Pattern AclFault
range_of word = range_in word (cut (58 ∷ []) word)

-- a number after an operator
abbrev pub bound_of : Operator → List ℕ → Result Pattern AclFault
bound_of operator word = do
  n ← number_in word
  Ok (patterns.Compared operator n)

abbrev pub value_of : Form → List ℕ → Result Pattern AclFault
value_of Networks word = network_of (net_of word)
value_of Ranges word = range_of word
value_of (Bounds operator) word = bound_of operator word

-- one value or more, which are alternatives
abbrev pub values_of : Form → List (List ℕ) → Result (List Pattern) AclFault
values_of form [] = Err NoPattern
values_of form (word ∷ rest) = each (λ done w. value_of form w) [] (word ∷ rest)

-- Tests.

-- a count of a counter
abbrev pub tracked_criterion : List ℕ → Result Criterion AclFault
tracked_criterion word =
    if bytes_eq word (codes "sc0_conn_cur") then Ok (criteria.TrackedConnections 0)
    else if bytes_eq word (codes "sc1_conn_cur") then Ok (criteria.TrackedConnections 1)
    else if bytes_eq word (codes "sc2_conn_cur") then Ok (criteria.TrackedConnections 2)
    else if bytes_eq word (codes "sc0_conn_cnt") then Ok (criteria.TrackedTotal 0)
    else if bytes_eq word (codes "sc1_conn_cnt") then Ok (criteria.TrackedTotal 1)
    else if bytes_eq word (codes "sc2_conn_cnt") then Ok (criteria.TrackedTotal 2)
    else Err UnknownCriterion

-- a criterion without argument
abbrev pub criterion_alone : List ℕ → Result Criterion AclFault
criterion_alone word =
    if bytes_eq word (codes "src") then Ok criteria.Source
    else if bytes_eq word (codes "src_conn_cur") then Ok (criteria.SourceConnections None)
    else if bytes_eq word (codes "src_conn_cnt") then Ok (criteria.SourceTotal None)
    else if bytes_eq word (codes "fe_conn") then Ok (criteria.FrontendConnections None)
    else tracked_criterion word

-- a criterion with a name as its argument
abbrev pub criterion_on : List ℕ → List ℕ → Result Criterion AclFault
criterion_on keyword name =
    if bytes_eq keyword (codes "src_conn_cur") then Ok (criteria.SourceConnections (Some name))
    else if bytes_eq keyword (codes "src_conn_cnt") then Ok (criteria.SourceTotal (Some name))
    else if bytes_eq keyword (codes "fe_conn") then Ok (criteria.FrontendConnections (Some name))
    else if bytes_eq keyword (codes "be_conn") then Ok (criteria.BackendConnections name)
    else Err UnknownCriterion

-- a name up to the closing bracket, after which nothing is left
abbrev pub argument_in : Option (List ℕ × List ℕ) → Result (List ℕ) AclFault
argument_in None = Err UnknownCriterion
argument_in (Some (name, [])) = if is_name name then Ok name else Err UnknownCriterion
argument_in (Some (name, byte ∷ more)) = Err UnknownCriterion

-- 41 is the closing bracket
abbrev pub criterion_in : List ℕ → Option (List ℕ × List ℕ) → Result Criterion AclFault
criterion_in word None = criterion_alone word
criterion_in word (Some (keyword, rest)) = do
  name ← argument_in (cut (41 ∷ []) rest)
  criterion_on keyword name

-- a word alone, or one with an argument in brackets: 40 is the opening bracket
abbrev pub criterion_of : List ℕ → Result Criterion AclFault
criterion_of word = criterion_in word (cut (40 ∷ []) word)

abbrev pub operator_of : List ℕ → Option Operator
operator_of word =
    if bytes_eq word (codes "eq") then Some Equal
    else if bytes_eq word (codes "ge") then Some AtLeast
    else if bytes_eq word (codes "gt") then Some Above
    else if bytes_eq word (codes "le") then Some AtMost
    else if bytes_eq word (codes "lt") then Some Below
    else None

abbrev pub numbers_by : Option Operator → List ℕ → List (List ℕ) → Result (List Pattern) AclFault
numbers_by None word rest = values_of Ranges (word ∷ rest)
numbers_by (Some operator) word rest = values_of (Bounds operator) rest

-- numbers and ranges, or an operator and then numbers only
abbrev pub numbers_of : List (List ℕ) → Result (List Pattern) AclFault
numbers_of [] = Err NoPattern
numbers_of (word ∷ rest) = numbers_by (operator_of word) word rest

-- the values of a criterion
abbrev pub patterns_of : Criterion → List (List ℕ) → Result (List Pattern) AclFault
patterns_of criteria.Source words = values_of Networks words
patterns_of criterion words = numbers_of words

-- a criterion and its values
abbrev pub test_of : List (List ℕ) → Result TestValue AclFault
test_of [] = Err UnknownCriterion
test_of (word ∷ rest) = do
  criterion ← criterion_of word
  values ← patterns_of criterion rest
  Ok (record { criterion = criterion; patterns = values })

-- the names that mean something else in a condition
abbrev pub is_reserved : List ℕ → Bool
is_reserved word = bytes_eq word (codes "TRUE") || bytes_eq word (codes "FALSE") || bytes_eq word (codes "or")

-- the name that an `acl` line declares
abbrev pub declared_name : List ℕ → Result (List ℕ) AclFault
declared_name word = if not (is_name word) || is_reserved word then Err BadName else Ok word

-- Conditions.

-- the words between braces
abbrev pub inner_test : List (List ℕ) → Result TestValue AclFault
inner_test [] = Err BadBraces
inner_test (word ∷ rest) = test_of (word ∷ rest)

-- where there is no closing brace, a wrong word before that is reported first
abbrev pub open_brace_fault : Result TestValue AclFault → Result TestValue AclFault
open_brace_fault (Err UnknownCriterion) = Err UnknownCriterion
open_brace_fault (Err BadPattern) = Err BadPattern
open_brace_fault other = Err BadBraces

-- by the place of a name among the known ones
abbrev pub operand_at : Option ℕ → Result Operand AclFault
operand_at None = Err UnknownName
operand_at (Some number) = Ok (operands.Acl number)

-- a word outside braces
abbrev pub operand_by_name : List (List ℕ) → List ℕ → Result Operand AclFault
operand_by_name known word =
    if bytes_eq word (codes "TRUE") then Ok (operands.Constant true)
    else if bytes_eq word (codes "FALSE") then Ok (operands.Constant false)
    else if bytes_eq word (codes "}") then Err BadBraces
    else operand_at (place_of word known)

abbrev pub operand_of : List (List ℕ) → Token → Result Operand AclFault
operand_of known tokens.Not = Err EmptyGroup
operand_of known tokens.Or = Err EmptyGroup
operand_of known (tokens.Plain word) = operand_by_name known word
operand_of known (tokens.Braces words) = inner_test words >>= λ test. Ok (operands.Test test)
operand_of known (tokens.OpenBrace words) = open_brace_fault (inner_test words) >>= λ test. Ok (operands.Test test)

-- one term or more, each an operand after any number of `!`, which cancel out in pairs
abbrev pub group_of : List (List ℕ) → Bool → List Token → Result (List Term) AclFault
group_of known negated [] = Err EmptyGroup
group_of known negated (token ∷ []) =
    if is_not token then Err EmptyGroup else (operand_of known token >>= λ operand. Ok (record { negated = negated; operand = operand } ∷ []))
group_of known negated (token ∷ next ∷ rest) =
    if is_not token then group_of known (not negated) (next ∷ rest) else (operand_of known token >>= λ operand.
    group_of known false (next ∷ rest) >>= λ terms. Ok (record { negated = negated; operand = operand } ∷ terms))

-- groups with `or` between them
abbrev pub condition_of : List (List ℕ) → List (List ℕ) → Result Cond AclFault
condition_of known words = do
  groups ← each (λ done group. group_of known false group) [] (slice_split is_or (tokens_of words))
  Ok (record { groups = groups })
