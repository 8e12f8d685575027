use Rattle.std.proofs.Common.{◌≡◌, ◌∙◌, ◌+◌, ◌++◌, ◌∷◌, [], List, length, take, ℕ, ap, sym, subst, arith, append_assoc}
use Rattle.std.proofs.lemmas.Bool.{le-leb}
use Rattle.std.proofs.lemmas.List.{length-take-le, take_more}
use Rattle.values.specs.declared.value.Value.{Value}
use Rattle.heap_file.specs.declared.page.Entry.{Entry}
use Rattle.heap_file.specs.declared.page.HeapPage.{HeapPage}
use Rattle.heap_file.specs.Filling.{entries_from}
use Rattle.heap_file.specs.HeapPage.{IsHeapPage, IsShort, entry_bytes}
use Rattle.heap_file.proofs.Fronts.{entries_from-more}
use Rattle.heap_file.proofs.Packing.{entry_is, length-push, pushed_fits}
use Rattle.heap_file.proofs.filling.page_filled.Goals as goal

pub loop-count-preserved : goal.loop-count-preserved
loop-count-preserved c =
    let held = c.loop-count.held in
    let was = c.args.held in
    let count = c.loop-count.count in
    let rows = c.args.rows.now in
    let row = c.index-rows-count.result in
    let entry : Entry = record { number = c.args.number + count; row = row } in
    let size : length (entry_bytes (held.entries ++ entry ∷ [])) ≡ length (entry_bytes held.entries) + c.entry_length-length.result = omega (arith, length-push held.entries entry, rw c.in_ok-row.ensures at c.entry_length-length.ensures.length) in
    let more : take (count + 1) rows ≡ take count rows ++ row ∷ [] = take_more rows count row c.loop-count-test.true ∙ ap (λ (x : List Value). take count rows ++ x ∷ []) (sym c.index-rows-count.is) in
    let invariant = c.loop-count.invariant in
    let pushed : c.push.new.self ≡ held.entries ++ entry ∷ [] = rw c.in_ok-row.ensures at c.in_ok-push.ensures.ok in
    let short : IsShort row = subst IsShort (sym c.index-rows-count.is) (c.requires.rows count row c.loop-count-test.true) in
    let is : IsHeapPage (record held { entries = held.entries ++ entry ∷ [] }) = pushed_fits held entry invariant.lawful (entry_is entry (omega arith) (rw c.in_ok-row.ensures at c.entry_length-length.ensures.row) short) (le-leb _ _ (omega (arith, size, invariant.length, c.if-length-gt-ENTRY_BYTES.false))) in
    let number = c.args.number in
    let length_taken : length (take count rows) ≡ count = length-take-le count rows (omega arith) in
    let from : entries_from number (take (count + 1) rows) ≡ entries_from number (take count rows) ++ entry ∷ [] =
    ap (entries_from number) more ∙ entries_from-more number (take count rows) row ∙ ap (λ (n : ℕ). entries_from number (take count rows) ++ record { number = number + n; row = row } ∷ []) length_taken in
    let entries : c.push.new.self ≡ was.entries ++ entries_from number (take (count + 1) rows) =
    pushed ∙ ap (λ (h : HeapPage). h.entries ++ entry ∷ []) invariant.held ∙ append_assoc was.entries (entries_from number (take count rows)) (entry ∷ []) ∙ ap (λ (es : List Entry). was.entries ++ es) (sym from) in
    record {
      held = λ i. record { next = (invariant.held i).next; next_number = (invariant.held i).next_number; last = (invariant.held i).last; entries = entries i };
      lawful = subst (λ (es : List Entry). IsHeapPage (record held { entries = es })) (sym pushed) is;
      length = ap (λ (es : List Entry). length (entry_bytes es)) pushed ∙ size ∙ ap (λ (n : ℕ). n + c.entry_length-length.result) invariant.length;
      numbers = omega (arith, invariant.numbers, c.if-number.false);
    }
