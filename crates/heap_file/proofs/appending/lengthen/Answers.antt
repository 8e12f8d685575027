use Rattle.std.proofs.Common.{◌≡◌, ◌≢◌, ◌∙◌, Ok, ap, sym, subst, arith}
use Rattle.pager.specs.Draft.{drafted}
use Rattle.pager.specs.Pages.{Pages, with_bytes}
use Rattle.heap_file.specs.declared.page.HeapPage.{HeapPage}
use Rattle.heap_file.specs.Chain.{IsAt}
use Rattle.heap_file.specs.HeapPage.{IsHeapPage, IsNarrow, page_bytes}
use Rattle.heap_file.specs.Work.{page_with}
use Rattle.heap_file.proofs.Heads.{at-other, at-own, at-taken}
use Rattle.heap_file.proofs.Packing.{one_entry}
use Rattle.heap_file.proofs.appending.lengthen.Goals.{then-next-first, else-next-first}
use Rattle.heap_file.proofs.appending.lengthen.Goals as goal

pub returns-clause-lengthened : goal.returns-clause-lengthened
returns-clause-lengthened g c = λ base shown told at.
    let size = c.args.draft.now.size in
    let first = c.args.head.page in
    let last = c.args.tail.page in
    let next = c.in_ok-next.next in
    let held = c.if-next-first.held in
    let linked : HeapPage = record c.args.tail.held { next = next } in
    let named : HeapPage = record held { last = next } in
    let pages = drafted shown c.args.draft.now.list in
    let taken = drafted shown c.take.new.draft.list in
    let took = c.in_ok-next.ensures.taken base shown told in
    let entered : Pages = with_bytes taken next (page_bytes (page_with c.args.entry)) in
    let whole : Pages = with_bytes entered last (page_bytes linked) in
    let page : drafted shown c.store.new.draft.list ≡ entered = rw c.in_ok-page.ensures.0 at (c.in_ok-store.ensures.drafted shown) in
    let link : drafted shown c.store-2.new.draft.list ≡ whole =
    c.in_ok-store-2.ensures.drafted shown ∙ ap (λ (p : Pages). with_bytes p last (page_bytes linked)) page in
    let name : drafted shown c.store-3.new.draft.list ≡ with_bytes whole first (page_bytes named) =
    c.in_ok-store-3.ensures.drafted shown ∙ ap (λ (p : Pages). with_bytes p first (page_bytes named)) link in
    let found : IsAt size whole first held × IsHeapPage held × IsNarrow held =
    elim c.if-next-first.branch [
      | then-next-first w ↦
          let own : IsAt size (with_bytes taken first (page_bytes (page_with c.args.entry))) first (page_with c.args.entry) =
          at-own size taken first (page_with c.args.entry) at.named at.there (record { next = omega arith; next_number = omega arith; last = omega arith }) (one_entry c.args.entry c.requires.entry) in
          let narrow : IsNarrow (page_with c.args.entry) = record { next = omega arith; next_number = omega arith; last = omega arith } in
          let here : IsAt size entered first c.in_ok-page.page = rw (c.in_ok-page.ensures.0, w.if-next-first.true) own in
          rw w.held-is (at-other size entered first last (page_bytes linked) c.in_ok-page.page c.requires.apart here, c.in_ok-page.ensures.1, rw c.in_ok-page.ensures.0 narrow)
      | else-next-first w ↦
          let behind : IsAt size taken first c.args.head.held = at-taken size pages taken next first c.args.head.held took at in
          let narrow : IsNarrow c.args.head.held = record { next = omega arith; next_number = omega arith; last = omega arith } in
          let apart : first ≢ next = λ e. w.if-next-first.false (sym e) in
          rw w.held-is (at-other size entered first last (page_bytes linked) c.args.head.held c.requires.apart (at-other size taken first next (page_bytes (page_with c.args.entry)) c.args.head.held apart behind), c.requires.head.1, narrow)
    ] in
    let lawful : IsHeapPage named = record { lawful = found.1.lawful; fits = found.1.fits } in (
      ((next, taken), took, (held, found.0, ap (λ (p : Pages). Ok (next, p)) (sym name))),
      subst (λ (p : Pages). IsAt size p first named) (sym name) (at-own size whole first named at.named at.there (record { next = found.2.next; next_number = found.2.next_number; last = omega arith }) lawful),
    )
