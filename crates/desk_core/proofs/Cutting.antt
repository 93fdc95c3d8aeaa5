-- The book of a desk after a cut.
use Rattle.std.specs.Prelude.{◌≡◌, ◌↔◌, ◌++◌, ◌∷◌, [], Option, Result, Ok, Err, IfErr, OnErr, OnOk, refl}
use Rattle.std.proofs.Common.{ap, subst, sym, ◌∙◌}
use Rattle.rtrb.specs.Ring.{known_free, sent, ProducerLooked, SameProducer}
use Rattle.book_core.specs.declared.book.CutFault.{CutFault}
use Rattle.book_core.specs.declared.book.CutFault.TheVariants.{Nothing, Full}
use Rattle.book_core.specs.Book.{after_cut, segment_of, with_ring, BookState, IsBook}
use Rattle.desk_core.specs.Books.{IsDeskBook, MomentsRise}
use Rattle.desk_core.specs.Calls.{IsCut, IsNotCut}
use Rattle.desk_core.proofs.Opened.{of_later}

-- whatever came of it, only what is in memory and in the ring is another
pub rest_same : (r : Result (Unit {0}) CutFault) (b c : BookState) → OnOk r (c ≡ after_cut b c.segments) → OnErr r ((c ≡ with_ring b c.segments) × ProducerLooked b.segments c.segments) →
    c ≡ record b { journal = c.journal; segments = c.segments }
rest_same (Ok u) b c cut err = cut ∙ ap (λ journal. record b { journal = journal; segments = c.segments }) (sym (ap (λ (x : BookState). x.journal) cut))
rest_same (Err f) b c cut err = err.0 ∙ ap (λ journal. record b { journal = journal; segments = c.segments }) (sym (ap (λ (x : BookState). x.journal) err.0))

pub still_of_desk : (named : Option BookState) (b c : BookState) → IsDeskBook named b → IsBook c → SameProducer b.segments c.segments → c ≡ record b { journal = c.journal; segments = c.segments } → IsDeskBook named c
still_of_desk named b c desk book ring same = record {
  book = book;
  opened = of_later named b c (ap (λ (x : BookState). x.base) same) ring desk.opened;
  rise = subst MomentsRise (sym (ap (λ (x : BookState). x.records) same)) desk.rise;
}

pub cut_of : (r : Result (Unit {0}) CutFault) (named : Option BookState) (b c : BookState) → IsDeskBook named b → IsDeskBook named c → ((r ≡ Err Nothing) ↔ (b.journal ≡ [])) →
    OnOk r (sent c.segments ≡ sent b.segments ++ segment_of b ∷ []) → OnOk r (c ≡ after_cut b c.segments) → OnOk r (IsCut named)
cut_of (Ok u) named b c desk later nothing more is = record {
  before = b;
  after = c;
  legal = desk;
  legal_after = later;
  some = λ none. absurd (wrong (nothing.1 none));
  sent = more;
  is = is;
}
  where
    wrong : Ok u ≡ Err Nothing → ⊥
    wrong e = cc
cut_of (Err f) named b c desk later nothing more is = tt

pub not_cut_of : (r : Result (Unit {0}) CutFault) (named : Option BookState) (b c : BookState) → IsDeskBook named b → IsDeskBook named c → ((r ≡ Err Nothing) ↔ (b.journal ≡ [])) →
    (r ≡ Err Full → known_free c.segments ≡ 0) → IfErr r (IsNotCut named)
not_cut_of (Ok u) named b c desk later nothing full = tt
not_cut_of (Err Nothing) named b c desk later nothing full = record { book = b; legal = desk; is = nothing.0 refl }
not_cut_of (Err Full) named b c desk later nothing full = record { book = c; legal = later; is = full refl }
