-- What is written of the records of a book.
use Rattle.std.proofs.Common.{◌≡◌, ◌+◌, ◌<◌, ℕ, List, [], ◌∷◌, ◌++◌, length, take, drop, Option, Some, None, refl, ap, subst, sym, ◌∙◌, append_assoc, append-nil, get_or, arith}
use Rattle.std.specs.Io.KnownBytes.{Appends}
use Rattle.std.proofs.lemmas.List.{take-append-drop, take_more}
use Rattle.record_core.specs.declared.record.Record.{Record}
use Rattle.record_core.specs.Records.{entry_of, history_of, AreNumbered}
use Rattle.record_core.specs.Records as records
use Rattle.conn_model.specs.History.{Entry}
use Rattle.audit_core.specs.Record.{entry_text, history_text}
use Rattle.audit_core.specs.Recording.{records_text, AppendsFront, Written}

appends_nothing : (held : Option (List ℕ)) → Appends held held []
appends_nothing None = tt
appends_nothing (Some xs) = sym (append-nil xs)

pub appends_both : (a b c : Option (List ℕ)) (xs ys : List ℕ) → Appends a b xs → Appends b c ys → Appends a c (xs ++ ys)
appends_both None b c xs ys p q = tt
appends_both (Some l) None c xs ys p q = absurd p
appends_both (Some l) (Some m) None xs ys p q = absurd q
appends_both (Some l) (Some m) (Some n) xs ys p q = q ∙ ap (λ zs. zs ++ ys) p ∙ append_assoc l xs ys

-- nothing was written yet
pub written_none : (held : Option (List ℕ)) → Written held held [] []
written_none held = record { done = []; appended = appends_nothing held; same = refl }

-- one text more in the block
pub written_more : (old new : Option (List ℕ)) (block more text : List ℕ) → Written old new block text → Written old new (block ++ more) (text ++ more)
written_more old new block more text is = record {
  done = is.done;
  appended = is.appended;
  same = sym (append_assoc is.done block more) ∙ ap (λ xs. xs ++ more) is.same;
}

pub written_on : (old mid new : Option (List ℕ)) (block less text : List ℕ) → Written old mid block text → Written mid new less block → Written old new less text
written_on old mid new block less text is next = record {
  done = is.done ++ next.done;
  appended = appends_both old mid new is.done next.done is.appended next.appended;
  same = append_assoc is.done next.done less ∙ ap (λ xs. is.done ++ xs) next.same ∙ is.same;
}

pub written_same : (held : Option (List ℕ)) (block : List ℕ) → Written held held block block
written_same held block = record { done = []; appended = appends_nothing held; same = refl }

pub written_sent : (old new : Option (List ℕ)) (bytes block left : List ℕ) → bytes ≡ block → left ≡ [] → Appends old new bytes → Written old new left block
written_sent old new bytes block left same none added = record { done = bytes; appended = added; same = ap (λ xs. bytes ++ xs) none ∙ append-nil bytes ∙ same }

pub records_append : (xs ys : List Record) → records_text (xs ++ ys) ≡ records_text xs ++ records_text ys
records_append [] ys = refl
records_append (x ∷ xs) ys =
    ap (λ more. entry_text x.number (entry_of x) ++ more) (records_append xs ys) ∙ sym (append_assoc (entry_text x.number (entry_of x)) (records_text xs) (records_text ys))

-- one record more
pub record_more : (index : ℕ) (all : List Record) (r : Record) → index < length all → r ≡ get_or all index r → records_text (take (index + 1) all) ≡ records_text (take index all) ++ entry_text r.number (entry_of r)
record_more index all r below is =
    ap records_text (take_more all index r below ∙ ap (λ x. take index all ++ x ∷ []) (sym is))
    ∙ records_append (take index all) (r ∷ [])
    ∙ ap (λ xs. records_text (take index all) ++ xs) (append-nil (entry_text r.number (entry_of r)))

pub written_record : (old mid new : Option (List ℕ)) (block more less : List ℕ) (index : ℕ) (all : List Record) (r : Record) → Written old mid block (records_text (take index all)) → index < length all → r ≡ get_or all index r
    → more ≡ block ++ entry_text r.number (entry_of r) → Written mid new less more → Written old new less (records_text (take (index + 1) all))
written_record old mid new block more less index all r is below item wrote next =
    subst (Written old new less) (sym (record_more index all r below item))
    (written_on old mid new more less (records_text (take index all) ++ entry_text r.number (entry_of r))
    (subst (λ xs. Written old mid xs (records_text (take index all) ++ entry_text r.number (entry_of r))) (sym wrote) (written_more old mid block (entry_text r.number (entry_of r)) (records_text (take index all)) is)) next)

-- the block was written
pub written_block : (old mid new : Option (List ℕ)) (block text : List ℕ) → Written old mid block text → Appends mid new block → Written old new [] text
written_block old mid new block text is added = record {
  done = is.done ++ block;
  appended = appends_both old mid new is.done block is.appended added;
  same = append-nil (is.done ++ block) ∙ is.same;
}

pub written_all : (old mid new : Option (List ℕ)) (block text : List ℕ) → Written old mid block text → Appends mid new block → Appends old new text
written_all old mid new block text is added = subst (Appends old new) is.same (appends_both old mid new is.done block is.appended added)

take_all : (xs : List Record) → take (length xs) xs ≡ xs
take_all [] = refl
take_all (x ∷ xs) = ap (λ zs. x ∷ zs) (take_all xs)

take_front : (xs ys : List ℕ) → take (length xs) (xs ++ ys) ≡ xs
take_front [] ys = refl
take_front (x ∷ xs) ys = ap (λ zs. x ∷ zs) (take_front xs ys)

-- what was written is a front of a longer text
pub front_of : (old new : Option (List ℕ)) (done rest text : List ℕ) → Appends old new done → done ++ rest ≡ text → AppendsFront old new text
front_of old new done rest text added same = (length done, subst (Appends old new) (sym (take_front done rest) ∙ ap (take (length done)) same) added)

-- of the records after those
records_rest : (count : ℕ) (all : List Record) → records_text (take count all) ++ records_text (drop count all) ≡ records_text all
records_rest count all = sym (records_append (take count all) (drop count all)) ∙ ap records_text (take-append-drop count all)

pub written_front : (old new : Option (List ℕ)) (block : List ℕ) (count : ℕ) (all : List Record) → Written old new block (records_text (take count all)) → AppendsFront old new (records_text all)
written_front old new block count all is =
    front_of old new is.done (block ++ records_text (drop count all)) (records_text all) is.appended
    (sym (append_assoc is.done block (records_text (drop count all))) ∙ ap (λ xs. xs ++ records_text (drop count all)) is.same ∙ records_rest count all)

pub block_front : (old mid new : Option (List ℕ)) (block : List ℕ) (count : ℕ) (all : List Record) → Written old mid block (records_text (take count all)) → AppendsFront mid new block
    → AppendsFront old new (records_text all)
block_front old mid new block count all is part =
    let front = take part.0 block in
    let rest = drop part.0 block ++ records_text (drop count all) in
    front_of old new (is.done ++ front) rest (records_text all) (appends_both old mid new is.done front is.appended part.1)
    (append_assoc is.done front rest
    ∙ ap (λ xs. is.done ++ xs) (sym (append_assoc front (drop part.0 block) (records_text (drop count all))) ∙ ap (λ xs. xs ++ records_text (drop count all)) (take-append-drop part.0 block))
    ∙ sym (append_assoc is.done block (records_text (drop count all)))
    ∙ ap (λ xs. xs ++ records_text (drop count all)) is.same
    ∙ records_rest count all)

pub record_front : (old mid new : Option (List ℕ)) (block more : List ℕ) (index : ℕ) (all : List Record) (r : Record) → Written old mid block (records_text (take index all)) → index < length all → r ≡ get_or all index r
    → more ≡ block ++ entry_text r.number (entry_of r) → AppendsFront mid new more → AppendsFront old new (records_text all)
record_front old mid new block more index all r is below item wrote part =
    block_front old mid new more (index + 1) all
    (written_record old mid mid block more more index all r is below item wrote (written_same mid more)) part

-- all was written
pub all_written : (old mid new : Option (List ℕ)) (block : List ℕ) (all : List Record) (count : ℕ) → Written old mid block (records_text (take count all)) → count ≡ length all → Appends mid new block
    → Appends old new (records_text all)
all_written old mid new block all count is whole added =
    subst (Appends old new) (ap (λ n. records_text (take n all)) whole ∙ ap records_text (take_all all)) (written_all old mid new block (records_text (take count all)) is added)

-- the records that go on after a history
goes_on : (h : List Entry) (all : List Record) → AreNumbered (length h + 1) all → history_text (records.history_on h all) ≡ history_text h ++ records_text all
goes_on h [] numbered = sym (append-nil (history_text h))
goes_on h (r ∷ rest) numbered =
    let counted : length h + 1 + 1 ≡ length (entry_of r ∷ h) + 1 = omega arith in
    goes_on (entry_of r ∷ h) rest (subst (λ n. AreNumbered n rest) counted numbered.1)
    ∙ append_assoc (history_text h) (entry_text (length h + 1) (entry_of r)) (records_text rest)
    ∙ ap (λ n. history_text h ++ (entry_text n (entry_of r) ++ records_text rest)) (sym numbered.0)

pub records_history : (all : List Record) → AreNumbered 1 all → records_text all ≡ history_text (history_of all)
records_history all numbered = let first : 1 ≡ 0 + 1 = refl in sym (goes_on [] all numbered)
