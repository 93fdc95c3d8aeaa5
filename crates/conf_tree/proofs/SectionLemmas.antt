-- The lines of a section, with one line more.
use Rattle.std.proofs.Common.{◌≡◌, ℕ, suc, ◌+◌, ◌≤◌, ◌||◌, Bool, true, false, not, List, [], ◌∷◌, ◌++◌, length, take, filter, refl, sym, ap, subst, ◌∙◌, if◌then◌else◌}
use native.Mathlib.Omega.{arith}
use Rattle.std.specs.List.{list_any, prefix_len}
use Rattle.std.specs.Str.{bytes_eq}
use Rattle.std.proofs.lemmas.Slice.Eq.{bytes_eq-Decides}
use Rattle.std.proofs.lemmas.List.{append-nil, length-append}
use Rattle.std.proofs.lemmas.List.Elements.{filter-append}
use Rattle.std.proofs.lemmas.List.Folds.{list_any-append}
use Rattle.conf_line.specs.declared.statement.ServerWords.{ServerWords}
use Rattle.conf_line.specs.declared.statement.Statement.{Statement}
use Rattle.conf_line.specs.declared.statement.Statement.TheVariants as statements
use Rattle.proxy_types.specs.declared.limits.TheConstants.{MOST_BINDS, MOST_SERVERS}
use Rattle.conf_tree.specs.declared.tree.ConfigLine.{ConfigLine}
use Rattle.conf_tree.specs.declared.tree.SectionPlace.{SectionPlace}
use Rattle.conf_tree.specs.Config.{place_of, section_lines, claim_of, claims_of, is_claim_taken, is_server_named, has_server, is_taken, is_bind, is_server, is_full}
use Rattle.conf_tree.specs.Kept.{last_section}
use Rattle.conf_tree.specs.Sections.{opens, own_lines}
use Rattle.conf_tree.specs.Sound.{ServersDiffer, IsSoundSection, AreSoundSections}
use Rattle.conf_tree.proofs.FewLemmas.{below}
use Rattle.conf_tree.proofs.SoundLemmas.{neither}

-- The lines up to the next section.

pub own_more : (item : ConfigLine) (rest : List ConfigLine) → own_lines (item ∷ rest) ≡ (if opens item.statement then [] else item ∷ own_lines rest)
own_more item rest = by (opens item.statement) refl
  where
    by : (b : Bool) → opens item.statement ≡ b → own_lines (item ∷ rest) ≡ (if opens item.statement then [] else item ∷ own_lines rest)
    by true is = rw is refl
    by false is =
        let n = prefix_len (λ (x : ConfigLine). not (opens x.statement)) rest in
        let next : 1 + n ≡ suc n = omega arith in
        rw is (ap (λ m. take m (item ∷ rest)) next)

abbrev one_opens : List ConfigLine → Bool
one_opens items = list_any (λ item. opens item.statement) items

own_all : (items : List ConfigLine) → one_opens items ≡ false → own_lines items ≡ items
own_all [] none = refl
own_all (item ∷ rest) none =
    let parts = neither (opens item.statement) (one_opens rest) none in
    own_more item rest ∙ ap (λ b. if b then [] else item ∷ own_lines rest) parts.0 ∙ ap (λ xs. item ∷ xs) (own_all rest parts.1)

-- with one line more they are the same, unless no line opens a section
own_after : (P : List ConfigLine → Type 0) (items : List ConfigLine) (item : ConfigLine) → P (own_lines items) → (one_opens items ≡ false → opens item.statement ≡ false → P (items ++ item ∷ [])) →
    P (own_lines (items ++ item ∷ []))
own_after P [] item before more = subst P (sym (own_more item [])) (by (opens item.statement) refl)
  where
    by : (b : Bool) → opens item.statement ≡ b → P (if b then [] else item ∷ [])
    by true is = before
    by false is = more refl is
own_after P (first ∷ rest) item before more =
    subst P (sym (own_more first (rest ++ item ∷ [])))
    (by (opens first.statement) refl (subst P (own_more first rest) before)
    (λ is p. own_after (λ xs. P (first ∷ xs)) rest item p (λ none closed. more (rw is none) closed)))
  where
    by : (b : Bool) → opens first.statement ≡ b → P (if b then [] else first ∷ own_lines rest) →
        (opens first.statement ≡ false → P (first ∷ own_lines rest) → P (first ∷ own_lines (rest ++ item ∷ []))) → P (if b then [] else first ∷ own_lines (rest ++ item ∷ []))
    by true is p later = p
    by false is p later = later is p

-- The last section.

pub last_opened : (items : List ConfigLine) (item : ConfigLine) → opens item.statement ≡ true → last_section (items ++ item ∷ []) ≡ item ∷ []
last_opened [] item is = refl
last_opened (first ∷ rest) item is =
    ap (λ b. if b then last_section (rest ++ item ∷ []) else first ∷ (rest ++ item ∷ [])) (one_more rest item is) ∙ last_opened rest item is
  where
    one_more : (items : List ConfigLine) (item : ConfigLine) → opens item.statement ≡ true → one_opens (items ++ item ∷ []) ≡ true
    one_more [] item is = rw is refl
    one_more (first ∷ rest) item is = by (opens first.statement) (one_more rest item is)
      where
        by : (b : Bool) → one_opens (rest ++ item ∷ []) ≡ true → (b || one_opens (rest ++ item ∷ [])) ≡ true
        by true later = refl
        by false later = later

pub last_kept : (items : List ConfigLine) (item : ConfigLine) → opens item.statement ≡ false → last_section (items ++ item ∷ []) ≡ last_section items ++ item ∷ []
last_kept [] item is = refl
last_kept (first ∷ rest) item is =
    ap (λ b. if b then last_section (rest ++ item ∷ []) else first ∷ (rest ++ item ∷ [])) (same rest item is) ∙ by (one_opens rest) (last_kept rest item is)
  where
    same : (items : List ConfigLine) (item : ConfigLine) → opens item.statement ≡ false → one_opens (items ++ item ∷ []) ≡ one_opens items
    same [] item is = rw is refl
    same (first ∷ rest) item is = ap (λ b. opens first.statement || b) (same rest item is)

    by : (b : Bool) → last_section (rest ++ item ∷ []) ≡ last_section rest ++ item ∷ [] →
        (if b then last_section (rest ++ item ∷ []) else first ∷ (rest ++ item ∷ [])) ≡ (if b then last_section rest else first ∷ rest) ++ item ∷ []
    by true later = later
    by false later = refl

last_all : (items : List ConfigLine) → one_opens items ≡ false → last_section items ≡ items
last_all [] none = refl
last_all (item ∷ rest) none = let parts = neither (opens item.statement) (one_opens rest) none in ap (λ b. if b then last_section rest else item ∷ rest) parts.1

-- The place of a line.

pub place_opened : (place : SectionPlace) (number : ℕ) (s : Statement) → opens s ≡ true → (place_of place number s).first ≡ number
place_opened place number statements.Global is = refl
place_opened place number statements.Defaults is = refl
place_opened place number (statements.Frontend name) is = refl
place_opened place number (statements.Backend name) is = refl
place_opened place number statement is = absurd cc

pub place_kept : (place : SectionPlace) (number : ℕ) (s : Statement) → opens s ≡ false → place_of place number s ≡ place
place_kept place number statements.Global is = absurd cc
place_kept place number statements.Defaults is = absurd cc
place_kept place number (statements.Frontend name) is = absurd cc
place_kept place number (statements.Backend name) is = absurd cc
place_kept place number statement is = refl

-- Room for one line more of a kind.

abbrev number : (Statement → Bool) → List ConfigLine → ℕ
number test lines = length (filter (λ item. test item.statement) lines)

abbrev HasRoomOf : ℕ → (Statement → Bool) → Statement → List ConfigLine → Type 0
HasRoomOf most test s lines = test s ≡ true → number test lines + 1 ≤ most

less_room : (most : ℕ) (test : Statement → Bool) (s : Statement) (first : ConfigLine) (rest : List ConfigLine) → HasRoomOf most test s (first ∷ rest) → HasRoomOf most test s rest
less_room most test s first rest room is = by (test first.statement) (room is)
  where
    by : (b : Bool) → length (if b then first ∷ filter (λ item. test item.statement) rest else filter (λ item. test item.statement) rest) + 1 ≤ most → number test rest + 1 ≤ most
    by true few = omega (arith, few)
    by false few = few

number_more : (most : ℕ) (test : Statement → Bool) (lines : List ConfigLine) (item : ConfigLine) → number test lines ≤ most → HasRoomOf most test item.statement lines →
    number test (lines ++ item ∷ []) ≤ most
number_more most test lines item few room =
    subst (λ xs. length xs ≤ most) (sym (filter-append (λ i. test i.statement) lines (item ∷ []))) (by (test item.statement) room)
  where
    those : List ConfigLine
    those = filter (λ i. test i.statement) lines

    by : (b : Bool) → (b ≡ true → length those + 1 ≤ most) → length (those ++ (if b then item ∷ [] else [])) ≤ most
    by true more =
        let less : length those + 1 ≤ most = more refl in
        rw (length-append those (item ∷ [])) (omega (arith, less))
    by false more = subst (λ xs. length xs ≤ most) (sym (append-nil those)) few

room_of_bind : (items : List ConfigLine) (place : SectionPlace) (s : Statement) → is_full items place s ≡ false → HasRoomOf MOST_BINDS is_bind s (section_lines place items)
room_of_bind items place (statements.Bind at proxy) full is = below (number is_bind (section_lines place items)) full
room_of_bind items place statement full is = absurd cc

room_of_server : (items : List ConfigLine) (place : SectionPlace) (s : Statement) → is_full items place s ≡ false → HasRoomOf MOST_SERVERS is_server s (section_lines place items)
room_of_server items place (statements.Server server) full is = below (number is_server (section_lines place items)) full
room_of_server items place statement full is = absurd cc

-- A server's name that no other one has.

other_way : (a b : List ℕ) → bytes_eq a b ≡ false → bytes_eq b a ≡ false
other_way a b differ = by (bytes_eq b a) refl
  where
    by : (same : Bool) → bytes_eq b a ≡ same → same ≡ false
    by true is = let wrong : false ≡ true = sym differ ∙ (bytes_eq-Decides a b).1 (sym ((bytes_eq-Decides b a).0 is)) in absurd cc
    by false is = refl

free_in_rest : (first : ConfigLine) (rest : List ConfigLine) (s : Statement) → has_server (first ∷ rest) s ≡ false → has_server rest s ≡ false
free_in_rest first rest (statements.Server server) free =
    (neither (is_server_named server.name first.statement) (list_any (λ item. is_server_named server.name item.statement) rest) free).1
free_in_rest first rest statement free = refl

-- the server before it has another name
other_before : (words : ServerWords) (line : ℕ) (place : SectionPlace) (rest : List ConfigLine) (s : Statement) → has_server (record { line = line; place = place; statement = statements.Server words } ∷ rest) s ≡ false →
    is_server_named words.name s ≡ false
other_before words line place rest statements.Nothing free = refl
other_before words line place rest statements.Global free = refl
other_before words line place rest statements.Defaults free = refl
other_before words line place rest (statements.Frontend name) free = refl
other_before words line place rest (statements.Backend name) free = refl
other_before words line place rest (statements.MaxConn limit) free = refl
other_before words line place rest (statements.Timeout kind ms) free = refl
other_before words line place rest (statements.Retries count) free = refl
other_before words line place rest (statements.Redispatch every) free = refl
other_before words line place rest (statements.DefaultBackend name) free = refl
other_before words line place rest (statements.Balance method) free = refl
other_before words line place rest (statements.Bind at proxy) free = refl
other_before words line place rest (statements.Acl name test) free = refl
other_before words line place rest (statements.Rule list action when) free = refl
other_before words line place rest (statements.UseBackend name when) free = refl
other_before words line place rest (statements.StickTable table) free = refl
other_before words line place rest (statements.Server server) free =
    other_way words.name server.name (neither (bytes_eq words.name server.name) (list_any (λ item. is_server_named server.name item.statement) rest) free).0

one_name_more : (s : Statement) (line : ℕ) (place : SectionPlace) (rest : List ConfigLine) (item : ConfigLine) → has_server rest s ≡ false →
    has_server (record { line = line; place = place; statement = s } ∷ rest) item.statement ≡ false → has_server (rest ++ item ∷ []) s ≡ false
one_name_more (statements.Server words) line place rest item before free =
    list_any-append (λ i. is_server_named words.name i.statement) rest (item ∷ [])
    ∙ ap (λ b. b || (is_server_named words.name item.statement || false)) before
    ∙ ap (λ b. b || false) (other_before words line place rest item.statement free)
one_name_more statement line place rest item before free = refl

names_more : (lines : List ConfigLine) (item : ConfigLine) → ServersDiffer lines → has_server lines item.statement ≡ false → ServersDiffer (lines ++ item ∷ [])
names_more [] item differ free = (free, tt)
names_more (first ∷ rest) item differ free =
    (one_name_more first.statement first.line first.place rest item differ.0 free, names_more rest item differ.1 (free_in_rest first rest item.statement free))

-- Which line may come next.

-- a line that says this may follow those in their section
pub record MayFollow (s : Statement) (lines : List ConfigLine) : Type 0 where
  pub binds : HasRoomOf MOST_BINDS is_bind s lines
  pub servers : HasRoomOf MOST_SERVERS is_server s lines
  pub name : has_server lines s ≡ false

follow_rest : (s : Statement) (first : ConfigLine) (rest : List ConfigLine) → MayFollow s (first ∷ rest) → MayFollow s rest
follow_rest s first rest may = record {
  binds = less_room MOST_BINDS is_bind s first rest may.binds;
  servers = less_room MOST_SERVERS is_server s first rest may.servers;
  name = free_in_rest first rest s may.name;
}

pub may_follow : (items : List ConfigLine) (place : SectionPlace) (s : Statement) → is_taken items place s ≡ false → is_full items place s ≡ false → MayFollow s (section_lines place items)
may_follow items place s free full = record {
  binds = room_of_bind items place s full;
  servers = room_of_server items place s full;
  name = (neither (is_claim_taken (claims_of items) (claim_of place s)) (has_server (section_lines place items) s) free).1;
}

-- One line more.

section_more : (lines : List ConfigLine) (item : ConfigLine) → IsSoundSection lines → MayFollow item.statement lines → IsSoundSection (lines ++ item ∷ [])
section_more lines item sound may = record {
  binds = number_more MOST_BINDS is_bind lines item sound.binds may.binds;
  servers = number_more MOST_SERVERS is_server lines item sound.servers may.servers;
  names = names_more lines item sound.names may.name;
}

pub sections_more : (items : List ConfigLine) (item : ConfigLine) → AreSoundSections items → (opens item.statement ≡ false → MayFollow item.statement (last_section items)) → AreSoundSections (items ++ item ∷ [])
sections_more [] item sound may = (record { binds = omega arith; servers = omega arith; names = tt }, tt)
sections_more (first ∷ rest) item sound may = (
  own_after IsSoundSection rest item sound.0 (λ none closed. section_more rest item (subst IsSoundSection (own_all rest none) sound.0) (here none closed)),
  sections_more rest item sound.1 (λ closed. later (one_opens rest) refl (may closed)),
)
  where
    here : one_opens rest ≡ false → opens item.statement ≡ false → MayFollow item.statement rest
    here none closed =
        follow_rest item.statement first rest (subst (λ lines. MayFollow item.statement lines) (ap (λ b. if b then last_section rest else first ∷ rest) none) (may closed))

    later : (b : Bool) → one_opens rest ≡ b → MayFollow item.statement (if b then last_section rest else first ∷ rest) → MayFollow item.statement (last_section rest)
    later true is more = more
    later false is more = subst (λ lines. MayFollow item.statement lines) (sym (last_all rest is)) (follow_rest item.statement first rest more)
