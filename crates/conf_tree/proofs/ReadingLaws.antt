-- What the lines of a configuration say, line by line.
use Rattle.std.proofs.Common.{◌≡◌, ℕ, List, [], Result, Ok, Err, refl, sym, ap, ◌∙◌, subst, inl, inr}
use Rattle.list_core.specs.Each.{◌>>=◌, each, IsRead}
use Rattle.list_core.proofs.EachLaws.{each_ok, each_err}
use Rattle.conf_text.specs.declared.line.Line.{Line}
use Rattle.conf_text.specs.declared.line.LineFault.{LineFault}
use Rattle.conf_text.specs.Lines.{lines_of}
use Rattle.conf_line.specs.declared.fault.ConfFault.{ConfFault}
use Rattle.conf_line.specs.declared.fault.ConfKind.TheVariants.{Text}
use Rattle.conf_tree.specs.declared.tree.ConfigLine.{ConfigLine}
use Rattle.conf_tree.specs.Config.{with_effect, next_item, text_fault, items_in, items_of, AreItems, IsConfFault}

pub are_items : (text : List ℕ) (items : List ConfigLine) → items_of text ≡ Ok items → AreItems text items
are_items text items is = by (lines_of text) refl
  where
    kept : (lines : List Line) → lines_of text ≡ Ok lines → (r : Result (List ConfigLine) ConfFault) → each next_item [] lines ≡ r → (r >>= λ all. Ok (with_effect all)) ≡ Ok items → AreItems text items
    kept lines read (Err fault) reads is = absurd cc
    kept lines read (Ok all) reads is =
        let same : with_effect all ≡ items = cc in
        let more = each_ok next_item [] lines all reads in
        let P : List ConfigLine → Type 0 = λ ys. IsRead next_item lines ys in
        (lines, all, read, subst P (sym more.1) more.2, sym same)

    by : (read : Result (List Line) LineFault) → lines_of text ≡ read → AreItems text items
    by (Err fault) read = let wrong = rw read at is in absurd cc
    by (Ok lines) read =
        let reads : items_in lines ≡ Ok items = rw read at is in
        kept lines read (each next_item [] lines) refl reads

pub is_conf_fault : (text : List ℕ) (fault : ConfFault) → items_of text ≡ Err fault → IsConfFault text fault
is_conf_fault text fault is = by (lines_of text) refl
  where
    first : (lines : List Line) → (r : Result (List ConfigLine) ConfFault) → each next_item [] lines ≡ r → (r >>= λ all. Ok (with_effect all)) ≡ Err fault → each next_item [] lines ≡ Err fault
    first lines (Err f) reads is = reads ∙ is
    first lines (Ok all) reads is = absurd cc

    by : (read : Result (List Line) LineFault) → lines_of text ≡ read → IsConfFault text fault
    by (Err f) read =
        let same : (text_fault (Err f) >>= λ lines. items_in lines) ≡ Err fault = rw read at is in
        let fault_is : record { line = f.line; kind = Text f.kind } ≡ fault = cc in
        inl (ap (λ r. text_fault r) read ∙ ap (λ x. Err x) fault_is)
    by (Ok lines) read =
        let reads : items_in lines ≡ Err fault = rw read at is in
        inr (lines, read, each_err next_item [] lines fault (first lines (each next_item [] lines) refl reads))
