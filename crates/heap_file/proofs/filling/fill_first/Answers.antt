use Rattle.std.proofs.Common.{◌≡◌, ◌∙◌, ◌+◌, ℕ, List, length, take, true, Ok, eqb, ap, sym, subst, arith, inr}
use Rattle.std.proofs.lemmas.Bool.{eq-eqb, ne_eqb}
use Rattle.std.proofs.lemmas.List.{length-take-le}
use Rattle.values.specs.declared.value.Value.{Value}
use Rattle.pager.specs.Draft.{drafted}
use Rattle.pager.specs.Pages.{Pages, with_bytes}
use Rattle.heap_file.specs.declared.page.HeapPage.{HeapPage}
use Rattle.heap_file.specs.Filling.{entries_from, placed_from}
use Rattle.heap_file.specs.HeapPage.{IsHeapPage, page_bytes}
use Rattle.heap_file.specs.Work.{all_placed}
use Rattle.heap_file.proofs.Fronts.{counted, last_ended, page_plus, placed_first}
use Rattle.heap_file.proofs.filling.fill_first.Goals as goal

pub returns-then-head-ne0-clause-placed : goal.returns-then-head-ne0-clause-placed
returns-then-head-ne0-clause-placed c = λ pages at.
    let head = c.args.head.held in
    inr (last_ended c.args.draft.now.size c.args.head.page c.args.rows.now (drafted pages c.args.draft.now.list) head head c.broken.result c.requires.some c.requires.number at (rw c.requires.last at) (ne_eqb 0 head.next (λ e. c.if-head-ne0.true (sym e))) (rw c.requires.last c.broken.ensures))

pub returns-in_ok-store-clause-placed : goal.returns-in_ok-store-clause-placed
returns-in_ok-store-clause-placed c = λ pages at.
    let size = c.args.draft.now.size in
    let under = drafted pages c.args.draft.now.list in
    let head = c.args.head.held in
    let first = c.args.head.page in
    let number = head.next_number in
    let count = c.in_ok-held.count in
    let rows : List (List Value) = take count c.args.rows.now in
    let filled = c.in_ok-held.ensures.filled in
    let long : length rows ≡ count = length-take-le count c.args.rows.now filled.count in
    let whole : IsHeapPage (page_plus head (entries_from number rows)) = subst IsHeapPage filled.page filled.lawful in
    let end : eqb 0 head.next ≡ true = eq-eqb 0 head.next (sym c.if-head-ne0.false) in
    let done = placed_first size first rows under head c.requires.last at end c.requires.narrow whole (omega (arith, long, filled.numbers)) (omega (arith, long)) in
    let back : number + count ≡ number + length rows = ap (λ (n : ℕ). number + n) (sym long) in
    let page : record c.in_ok-held.held { next_number = number + count } ≡ counted (page_plus head (entries_from number rows)) (length rows) =
    λ i. record { next = (filled.page i).next; next_number = back i; last = (filled.page i).last; entries = (filled.page i).entries } in
    let stored : drafted pages c.store.new.draft.list ≡ with_bytes under first (page_bytes (counted (page_plus head (entries_from number rows)) (length rows))) =
    c.in_ok-store.ensures.drafted pages ∙ ap (λ (p : HeapPage). with_bytes under first (page_bytes p)) page in
    let told = subst (λ (n : ℕ). all_placed size first rows under (Ok (placed_from number first n, with_bytes under first (page_bytes (counted (page_plus head (entries_from number rows)) (length rows)))))) long done in
    (filled.count, subst (λ (p : Pages). all_placed size first rows under (Ok (placed_from number first count, p))) (sym stored) told)
