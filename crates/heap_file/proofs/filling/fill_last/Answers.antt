use Rattle.std.proofs.Common.{◌≡◌, ◌∙◌, ◌+◌, ℕ, List, length, take, true, Ok, eqb, ap, sym, subst, arith, inr}
use Rattle.std.proofs.lemmas.Bool.{eq-eqb, ne_eqb}
use Rattle.std.proofs.lemmas.List.{length-take-le}
use Rattle.values.specs.declared.value.Value.{Value}
use Rattle.pager.specs.Draft.{drafted}
use Rattle.pager.specs.Pages.{Pages, with_bytes}
use Rattle.heap_file.specs.declared.page.HeapPage.{HeapPage}
use Rattle.heap_file.specs.Filling.{entries_from, placed_from}
use Rattle.heap_file.specs.HeapPage.{IsHeapPage, page_bytes}
use Rattle.heap_file.specs.Work.{all_placed}
use Rattle.heap_file.proofs.Fronts.{counted, last_ended, page_plus, placed_behind}
use Rattle.heap_file.proofs.filling.fill_last.Goals as goal

pub returns-then-tail-ne0-clause-placed : goal.returns-then-tail-ne0-clause-placed
returns-then-tail-ne0-clause-placed c = λ pages one at.
    let tail = c.args.tail.held in
    inr (last_ended c.args.draft.now.size c.args.head.page c.args.rows.now (drafted pages c.args.draft.now.list) c.args.head.held tail c.broken.result c.requires.some c.requires.number one (rw c.requires.last at) (ne_eqb 0 tail.next (λ e. c.if-tail-ne0.true (sym e))) (rw c.requires.last c.broken.ensures))

pub returns-in_ok-store-2-clause-placed : goal.returns-in_ok-store-2-clause-placed
returns-in_ok-store-2-clause-placed c = λ pages one at.
    let size = c.args.draft.now.size in
    let under = drafted pages c.args.draft.now.list in
    let head = c.args.head.held in
    let tail = c.args.tail.held in
    let first = c.args.head.page in
    let last = c.args.tail.page in
    let number = head.next_number in
    let count = c.in_ok-held.count in
    let rows : List (List Value) = take count c.args.rows.now in
    let filled = c.in_ok-held.ensures.filled in
    let long : length rows ≡ count = length-take-le count c.args.rows.now filled.count in
    let back : number + count ≡ number + length rows = ap (λ (n : ℕ). number + n) (sym long) in
    let whole : IsHeapPage (page_plus tail (entries_from number rows)) = subst IsHeapPage filled.page filled.lawful in
    let end : eqb 0 tail.next ≡ true = eq-eqb 0 tail.next (sym c.if-tail-ne0.false) in
    let done = placed_behind size first last rows under head tail c.requires.apart c.requires.last one at end c.requires.narrow c.requires.also c.requires.head.1 whole (omega (arith, long, filled.numbers)) (omega (arith, long)) in
    let put : Pages = with_bytes under last (page_bytes (page_plus tail (entries_from number rows))) in
    let after : Pages = with_bytes put first (page_bytes (counted head (length rows))) in
    let page : drafted pages c.store.new.draft.list ≡ put = c.in_ok-store.ensures.drafted pages ∙ ap (λ (p : HeapPage). with_bytes under last (page_bytes p)) filled.page in
    let stored : drafted pages c.store-then-count-gt0.new.draft.list ≡ after =
    c.in_ok-store-2.ensures.drafted pages ∙ (λ i. with_bytes (page i) first (page_bytes (record head { next_number = back i }))) in
    let told = subst (λ (n : ℕ). all_placed size first rows under (Ok (placed_from number last n, after))) long done in
    (filled.count, subst (λ (p : Pages). all_placed size first rows under (Ok (placed_from number last count, p))) (sym stored) told)
