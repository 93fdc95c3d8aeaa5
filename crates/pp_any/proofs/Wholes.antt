-- Whole headers have the status whole, whatever follows them.
use Rattle.std.proofs.Common.{◌≡◌, ℕ, zero, suc, ◌+◌, ◌<◌, ◌≤◌, Bool, true, false, List, [], ◌∷◌, ◌++◌, length, take, drop, Some, None, Option, refl, ◌∙◌, sym, ap, arith, append_assoc, length-append}
use Rattle.std.specs.Prelude.{Result, Ok, nat_eq, slice_index}
use Rattle.std.specs.List.{starts_with}
use Rattle.std.specs.Cmp.Lexicographic.{same_text}
use Rattle.std.proofs.lemmas.List.{length-take-le, length-drop, take-append-drop, take_at, take_all}
use Rattle.pp_v1.specs.declared.meaning.Meaning.{Meaning}
use Rattle.pp_v1.specs.declared.meaning.Meaning.TheVariants.{Real, Declared}
use Rattle.addr_core.specs.PairValue.{PairValue}
use Rattle.pp_v2.specs.declared.head.Family.{Family}
use Rattle.pp_v2.specs.declared.head.Head.{Head}
use Rattle.pp_v2.specs.declared.fault.V2Fault.{V2Fault}
use Rattle.pp_v2.specs.Head.{block_length, command_fault, declared_in, family_fault, head_of, length_fault, pair_length, signature, signature_fault, unless}
use Rattle.pp_v2.specs.Block.{family_in, head_for, pair_in}
use Rattle.pp_any.specs.Status.{Wait, Whole, is_line, meaning_in, decision, status}
use Rattle.pp_any.specs.Rest.{IsAtBlock, IsWholeHead}
use Rattle.pp_any.specs.Header.{IsBlock}
use Rattle.pp_any.proofs.Steps.{status_from-append}
use Rattle.pp_any.proofs.Heads.{head_alone, head_fits, head_rest, none_fits}
use Rattle.pp_any.proofs.Blocks.{Lacks, block_ends}

-- what a head that is read has
record IsRead (b : List ℕ) : Type 0 where
  begins : take 12 b ≡ signature
  command : command_fault (slice_index b 12) ≡ None
  family : family_fault (slice_index b 12) (slice_index b 13) ≡ None

begins_by : (b : List ℕ) → signature_fault b ≡ None → take 12 b ≡ signature
begins_by b none = by (starts_with nat_eq b signature) refl
  where
    by : (t : Bool) → starts_with nat_eq b signature ≡ t → take 12 b ≡ signature
    by true test = sym (same_text signature (take 12 b) (sym test))
    by false test = let wrong = rw test at none in absurd cc

read_by : (b : List ℕ) (o p q : Option V2Fault) (r : Result Head V2Fault) (head : Head) → signature_fault b ≡ o → command_fault (slice_index b 12) ≡ p
    → family_fault (slice_index b 12) (slice_index b 13) ≡ q → unless o (unless p (unless q r)) ≡ Ok head → IsRead b
read_by b None None None r head first second third is = record { begins = begins_by b first; command = second; family = third }
read_by b None None (Some fault) r head first second third is = absurd cc
read_by b None (Some fault) q r head first second third is = absurd cc
read_by b (Some fault) p q r head first second third is = absurd cc

is_read : (b : List ℕ) (head : Head) → head_of b ≡ Ok head → IsRead b
is_read b head is =
    read_by b (signature_fault b) (command_fault (slice_index b 12)) (family_fault (slice_index b 12) (slice_index b 13))
    (unless (length_fault (declared_in b) (block_length b)) (Ok (record { declares = declared_in b; len = block_length b }))) head refl refl refl is

-- the first 15 bytes decide nothing
waits_literal : (c f h : ℕ) → command_fault c ≡ None → family_fault c f ≡ None → status (signature ++ c ∷ f ∷ h ∷ []) ≡ Wait
waits_literal c f h command family = rw (command, family) refl

waits_list : (b rest : List ℕ) → b ≡ signature ++ rest → length rest ≡ 4 → IsRead b → IsWholeHead b
waits_list b [] is four read = absurd (omega arith)
waits_list b (c ∷ []) is four read = absurd (omega arith)
waits_list b (c ∷ f ∷ []) is four read = absurd (omega arith)
waits_list b (c ∷ f ∷ h ∷ []) is four read = absurd (omega arith)
waits_list b (c ∷ f ∷ h ∷ l ∷ []) is four read =
    let command : command_fault c ≡ None = ap (λ e. command_fault (slice_index e 12)) (sym is) ∙ read.command in
    let family : family_fault c f ≡ None = ap (λ e. family_fault (slice_index e 12) (slice_index e 13)) (sym is) ∙ read.family in
    record {
      waits = ap (λ e. status (take 15 e)) is ∙ waits_literal c f h command family;
      head = ap is_line is;
      all = ap length is;
    }
waits_list b (c ∷ f ∷ h ∷ l ∷ x ∷ rest) is four read = absurd (omega arith)

pub whole_head : (b : List ℕ) (head : Head) → length b ≡ 16 → head_of b ≡ Ok head → IsAtBlock b head
whole_head b head all says =
    let read = is_read b head says in
    let l = length-drop 12 b in
    record {
      whole = waits_list b (drop 12 b) (sym (take-append-drop 12 b) ∙ ap (λ e. e ++ drop 12 b) read.begins) (omega arith) read;
      says = says;
    }

-- a block that is whole, whatever follows
pub block_is_whole : (b : List ℕ) (meaning : Meaning) → IsBlock b meaning → (c : List ℕ) → status (b ++ c) ≡ Whole (length b) meaning
block_is_whole b meaning block c = by block.head.len refl
  where
    front : List ℕ
    front = take 16 b

    past : 16 ≤ length b
    past = block.past

    front_len : length front ≡ 16
    front_len = length-take-le 16 b past

    there : IsAtBlock front block.head
    there = whole_head front block.head front_len block.says

    apart : b ++ c ≡ front ++ (drop 16 b ++ c)
    apart = ap (λ e. e ++ c) (sym (take-append-drop 16 b)) ∙ append_assoc front (drop 16 b) c

    by : (n : ℕ) → block.head.len ≡ n → status (b ++ c) ≡ Whole (length b) meaning
    by zero none =
        let fits = head_fits front block.head block.says in
        let real : block.head.declares ≡ None = none_fits block.head.declares (rw none at fits) in
        let all = block.all in
        let l = front_len in
        let count : length front ≡ length b = omega arith in
        ap status apart ∙ head_alone front (drop 16 b ++ c) block.head there fits none
        ∙ ap (λ n. Whole n Real) count
        ∙ ap (λ d. Whole (length b) (meaning_in d (drop 16 b))) (sym real)
        ∙ ap (λ m. Whole (length b) m) (sym block.means)
    by (suc n) some =
        let all = block.all in
        let l = front_len in
        let p = past in
        let d = length-drop 16 b in
        let more = length-append (drop 16 b) c in
        let above : 0 < block.head.len = omega arith in
        let lacks : Lacks front block.head block.head.len = record {
          version = there.whole.head;
          past = omega arith;
          says = ap head_of (take_all 16 front (omega arith)) ∙ block.says;
          all = omega arith;
        } in
        let count : length front + block.head.len ≡ length b = omega arith in
        let whole : front ++ take block.head.len (drop 16 b ++ c) ≡ b =
        ap (λ e. front ++ e) (take_at (drop 16 b) c block.head.len (omega arith)) ∙ take-append-drop 16 b in
        ap status apart
        ∙ status_from-append decision [] front (drop 16 b ++ c) (head_rest front block.head there above).0
        ∙ block_ends front (drop 16 b ++ c) block.head block.head.len lacks above (omega arith)
        ∙ ap (λ n. Whole n (meaning_in block.head.declares (drop 16 (front ++ take block.head.len (drop 16 b ++ c))))) count
        ∙ ap (λ e. Whole (length b) (meaning_in block.head.declares (drop 16 e))) whole
        ∙ ap (λ m. Whole (length b) m) (sym block.means)

pair_fills : (family : Family) (block : List ℕ) → length block ≡ pair_length family → take (pair_length family) block ≡ block
pair_fills family block all = take_all (pair_length family) block (omega arith)

-- the header of a pair
pub v2_is_whole : (b : List ℕ) (pair : PairValue) → length b ≡ 16 + pair_length (family_in pair.source.addr) → head_of (take 16 b) ≡ Ok (head_for pair)
    → pair_in (family_in pair.source.addr) (drop 16 b) ≡ pair → (c : List ℕ) → status (b ++ c) ≡ Whole (length b) (Declared pair)
v2_is_whole b pair all says means c =
    let d = length-drop 16 b in
    let fills : take (pair_length (family_in pair.source.addr)) (drop 16 b) ≡ drop 16 b = pair_fills (family_in pair.source.addr) (drop 16 b) (omega arith) in
    block_is_whole b (Declared pair) (record {
      head = head_for pair;
      past = omega arith;
      says = says;
      all = all;
      means = sym (ap (λ e. Declared (pair_in (family_in pair.source.addr) e)) fills ∙ ap (λ p. Declared p) means);
    }) c
