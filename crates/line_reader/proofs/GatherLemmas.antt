-- What was read and given in no line yet.
use Rattle.std.proofs.Common.{◌≡◌, ℕ, ◌<◌, ◌≤◌, List, [], ◌++◌, length, subst, Option, Some, None, refl, ap, sym, ◌∙◌, append_assoc, append-nil}
use Rattle.std.specs.Io.KnownBytes.{Consumes, IsAtEnd, Keeps}
use Rattle.text_core.specs.Parts.{parts, is_line_feed, IsUnended}
use Rattle.line_reader.specs.Lines.{ConsumesAll, Gathers, GivesLastLine, LineState}
use Rattle.line_reader.specs.declared.lines.TheConstants.{MOST_LINE_BYTES}
use Rattle.text_core.proofs.PartLemmas.{last_line}

consumes_none : (left : Option (List ℕ)) → Consumes left left []
consumes_none None = tt
consumes_none (Some xs) = refl

consumes_on : (left mid less : Option (List ℕ)) (xs ys : List ℕ) → Consumes left mid xs → Consumes mid less ys → Consumes left less (xs ++ ys)
consumes_on None mid less xs ys first second = tt
consumes_on (Some all) None less xs ys first second = absurd first
consumes_on (Some all) (Some rest) None xs ys first second = absurd second
consumes_on (Some all) (Some rest) (Some last) xs ys first second = first ∙ ap (λ zs. xs ++ zs) second ∙ sym (append_assoc xs ys last)

pub consumes_keeps : (left mid less : Option (List ℕ)) (xs : List ℕ) → Consumes left mid xs → Keeps mid less → Consumes left less xs
consumes_keeps None mid less xs first second = tt
consumes_keeps (Some all) None less xs first second = absurd first
consumes_keeps (Some all) (Some rest) None xs first second = absurd second
consumes_keeps (Some all) (Some rest) (Some last) xs first second = first ∙ ap (λ zs. xs ++ zs) (sym second)

pub consumes_all : (left mid less : Option (List ℕ)) (xs : List ℕ) → Consumes left mid xs → ConsumesAll mid less [] → ConsumesAll left less xs
consumes_all None mid less xs first second = tt
consumes_all (Some all) None less xs first second = absurd first
consumes_all (Some all) (Some rest) less xs first second = (first ∙ ap (λ zs. xs ++ zs) second.0 ∙ append-nil xs, second.1)

-- a reader that is at its end
pub at_end : (left less : Option (List ℕ)) → IsAtEnd left → Keeps left less → ConsumesAll left less []
at_end None less end keeps = tt
at_end (Some xs) None end keeps = absurd keeps
at_end (Some xs) (Some ys) end keeps = (end, ap Some (keeps ∙ end))

-- nothing read yet
pub gathers_none : (old new : LineState) (left : Option (List ℕ)) → old.kept ≡ new.line ++ new.kept → Gathers old new left left
gathers_none old new left same = record { bytes = []; moved = consumes_none left; same = append-nil old.kept ∙ same }

-- the same bytes, in other places
pub gathers_moved : (old mid new : LineState) (left less : Option (List ℕ)) → Gathers old mid left less → mid.line ++ mid.kept ≡ new.line ++ new.kept → Gathers old new left less
gathers_moved old mid new left less gathers same = record { bytes = gathers.bytes; moved = gathers.moved; same = gathers.same ∙ same }

-- a block more
pub gathers_block : (old mid new : LineState) (left less last : Option (List ℕ)) → Gathers old mid left less → mid.kept ≡ [] → new.line ≡ mid.line
    → Consumes less last new.kept → Gathers old new left last
gathers_block old mid new left less last gathers none line moved = record {
  bytes = gathers.bytes ++ new.kept;
  moved = consumes_on left less last gathers.bytes new.kept gathers.moved moved;
  same = sym (append_assoc old.kept gathers.bytes new.kept) ∙ ap (λ xs. xs ++ new.kept) (gathers.same ∙ ap (λ xs. mid.line ++ xs) none ∙ append-nil mid.line ∙ sym line);
}

-- nothing more
pub gathers_kept : (old mid new : LineState) (left less last : Option (List ℕ)) → Gathers old mid left less → Keeps less last → mid.line ++ mid.kept ≡ new.line ++ new.kept
    → Gathers old new left last
gathers_kept old mid new left less last gathers keeps same = record {
  bytes = gathers.bytes;
  moved = consumes_keeps left less last gathers.bytes gathers.moved keeps;
  same = gathers.same ∙ same;
}

-- the last line, which lacks its line feed
pub gives_last : (old mid new last : LineState) (left less end : Option (List ℕ)) → Gathers old mid left less → new.line ≡ mid.line ++ mid.kept → last.line ≡ new.line
    → IsUnended new.line → 0 < length last.line → ConsumesAll less end [] → length new.line ≤ MOST_LINE_BYTES → GivesLastLine old last left end
gives_last old mid new last left less end gathers all same unended some moved fits = record {
  bytes = gathers.bytes;
  moved = consumes_all left less end gathers.bytes gathers.moved moved;
  is_line = ap (parts is_line_feed) (gathers.same ∙ sym all ∙ sym same) ∙ last_line last.line (subst IsUnended (sym same) unended) some;
  fits = subst (λ xs. length xs ≤ MOST_LINE_BYTES) (sym same) fits;
}
