use Rattle.std.proofs.Common.{◌≡◌, ◌∙◌, Ok, ap, sym, subst, arith}
use Rattle.pager.specs.Draft.{drafted}
use Rattle.pager.specs.Pages.{Pages, with_bytes}
use Rattle.heap_file.specs.declared.page.HeapPage.{HeapPage}
use Rattle.heap_file.specs.Chain.{IsAt}
use Rattle.heap_file.specs.HeapPage.{IsHeapPage, page_bytes}
use Rattle.heap_file.specs.Work.{page_with}
use Rattle.heap_file.proofs.Heads.{at-own}
use Rattle.heap_file.proofs.appending.lengthen_first.Goals as goal

pub returns-clause-lengthened : goal.returns-clause-lengthened
returns-clause-lengthened g c = λ base shown told at.
    let size = c.args.draft.now.size in
    let first = c.args.head.page in
    let next = c.in_ok-next.next in
    let linked : HeapPage = record c.args.head.held { next = next } in
    let named : HeapPage = record c.args.head.held { next = next; last = next } in
    let taken = drafted shown c.take.new.draft.list in
    let entered : Pages = with_bytes taken next (page_bytes (page_with c.args.entry)) in
    let page : drafted shown c.store.new.draft.list ≡ entered = rw c.in_ok-page.ensures.0 at (c.in_ok-store.ensures.drafted shown) in
    let link : drafted shown c.store-2.new.draft.list ≡ with_bytes entered first (page_bytes linked) =
    c.in_ok-store-2.ensures.drafted shown ∙ ap (λ (p : Pages). with_bytes p first (page_bytes linked)) page in
    let name : drafted shown c.store-3.new.draft.list ≡ with_bytes (with_bytes entered first (page_bytes linked)) first (page_bytes named) =
    c.in_ok-store-3.ensures.drafted shown ∙ ap (λ (p : Pages). with_bytes p first (page_bytes named)) link in
    let is : IsHeapPage linked = record { lawful = c.requires.head.1.lawful; fits = c.requires.head.1.fits } in
    let also : IsHeapPage named = record { lawful = c.requires.head.1.lawful; fits = c.requires.head.1.fits } in (
      (
        (next, taken),
        c.in_ok-next.ensures.taken base shown told,
        (linked, at-own size entered first linked at.named at.there (record { next = omega arith; next_number = omega arith; last = omega arith }) is, ap (λ (p : Pages). Ok (next, p)) (sym name)),
      ),
      subst (λ (p : Pages). IsAt size p first named) (sym name) (at-own size (with_bytes entered first (page_bytes linked)) first named at.named at.there (record { next = omega arith; next_number = omega arith; last = omega arith }) also),
    )
