-- Lines with a word too many hand in no event.
use Rattle.std.proofs.Common.{◌≡◌, ℕ, List, ◌∷◌, None, refl}
use Rattle.std.specs.List.{slice_split}
use Rattle.event_text.specs.Script.{backend_asked, close_of, entry_asked, frontend_asked, id_in, is_mark, piece_of, reload_of, server_asked, words_of, mark_of}
use Rattle.text_core.proofs.CutLemmas.{split_first}

pub close_long : (a b text : List ℕ) → close_of (a ∷ b ∷ words_of text) ≡ None
close_long a b text = let some = split_first (is_mark 0x20) text in rw (some.2) refl

pub id_long : (a b text : List ℕ) → id_in (a ∷ b ∷ slice_split (is_mark 0x2E) text) ≡ None
id_long a b text = let some = split_first (is_mark 0x2E) text in rw (some.2) refl

pub frontend_long : (a text : List ℕ) → frontend_asked (a ∷ words_of text) ≡ None
frontend_long a text = let some = split_first (is_mark 0x20) text in rw (some.2) refl

pub entry_long : (a b text : List ℕ) → entry_asked (a ∷ b ∷ words_of text) ≡ None
entry_long a b text = let some = split_first (is_mark 0x20) text in rw (some.2) refl

pub piece_long : (a b text : List ℕ) → piece_of (a ∷ b ∷ words_of text) ≡ None
piece_long a b text = let some = split_first (is_mark 0x20) text in rw (some.2) refl

pub backend_long : (a text : List ℕ) → backend_asked (a ∷ words_of text) ≡ None
backend_long a text = let some = split_first (is_mark 0x20) text in rw (some.2) refl

pub server_long : (a b text : List ℕ) → server_asked (a ∷ b ∷ words_of text) ≡ None
server_long a b text = let some = split_first (is_mark 0x20) text in rw (some.2) refl

pub reload_long : (moment : ℕ) (a text : List ℕ) → reload_of moment (a ∷ words_of text) ≡ None
reload_long moment a text = let some = split_first (is_mark 0x20) text in rw (some.2) refl

pub mark_long : (a b c text : List ℕ) → mark_of (a ∷ b ∷ c ∷ words_of text) ≡ None
mark_long a b c text = let some = split_first (is_mark 0x20) text in rw (some.2) refl
