use Rattle.std.proofs.Common.{◌≡◌, ◌≢◌, ◌∙◌, ◌++◌, ◌∷◌, [], true, false, eqb, ap, sym, subst, inl, inr}
use Rattle.std.proofs.lemmas.Bool.{eq-eqb, ne_eqb}
use Rattle.std.proofs.lemmas.Result.{err_from_is_err_and}
use Rattle.pager.specs.Draft.{drafted}
use Rattle.pager.specs.Pages.{Pages, broken}
use Rattle.heap_file.specs.Chain.{IsAt}
use Rattle.heap_file.specs.Work.{appended, leaving_head, lengthened}
use Rattle.heap_file.specs.HeapPage.{have_room}
use Rattle.heap_file.proofs.Heads.{at-other, ended, fitted, head_on, long}
use Rattle.heap_file.proofs.Packing.{entry_is, pushed_fits}
use Rattle.heap_file.proofs.Ways.{allowed_stop, allowed_on}
use Rattle.heap_file.proofs.appending.append_with_head.Goals as goal

pub lengthen-requires-clause-entry : goal.lengthen-requires-clause-entry
lengthen-requires-clause-entry g c = entry_is c.args.entry c.requires.number c.has_room.ensures.row c.requires.entry

pub store-requires-clause-held : goal.store-requires-clause-held
store-requires-clause-held g c =
    let room = rw c.as_slice.ensures at (sym c.has_room.ensures.room ∙ c.if-not-has_room.false) in
    rw c.in_ok-push.ensures.ok (pushed_fits c.in_ok-tail.tail c.args.entry c.in_ok-tail.ensures.lawful (entry_is c.args.entry c.requires.number c.has_room.ensures.row c.requires.entry) room)

pub returns-in_err-tail-clause-appended : goal.returns-in_err-tail-clause-appended
returns-in_err-tail-clause-appended g c = λ base shown told.
    let p = err_from_is_err_and c.from_residual.result c.from_residual.ensures.1 in
    rw (p.1, p.2)
    (allowed_stop c.in_err-tail.field-0.0 (λ why h at. inr (c.args.head.held, at, inl h))
    (rw c.last_page-last.ensures at (c.in_err-tail.ensures.read base shown told)))

pub returns-then-tail-ne0-clause-appended : goal.returns-then-tail-ne0-clause-appended
returns-then-tail-ne0-clause-appended g c = λ base shown told.
    let tail = rw c.last_page-last.ensures at (c.in_ok-tail.ensures.read base shown told) in
    inr (λ at. ended c.args.draft.now.size (drafted shown c.args.draft.now.list) c.args.head.page c.args.entry c.args.head.held c.in_ok-tail.tail c.broken.result at tail (ne_eqb 0 c.in_ok-tail.tail.next (λ e. c.if-tail-ne0.true (sym e))) (c.broken.ensures ∙ ap broken c.last_page-last.ensures))

pub returns-then-not-has_room-clause-appended : goal.returns-then-not-has_room-clause-appended
returns-then-not-has_room-clause-appended g c = λ base shown told.
    let size = c.args.draft.now.size in
    let pages = drafted shown c.args.draft.now.list in
    let first = c.args.head.page in
    let last = c.last_page-last.result in
    let tail = c.in_ok-tail.tail in
    let at_last = c.in_ok-tail.ensures.read base shown (c.lengthen.ensures.only_reads.narrows base shown told) in
    let end : eqb 0 tail.next ≡ true = eq-eqb 0 tail.next (sym c.if-tail-ne0.false) in
    let room : have_room (tail.entries ++ c.args.entry ∷ []) ≡ false = rw c.as_slice.ensures at (sym c.has_room.ensures.room ∙ c.if-not-has_room.true) in
    allowed_on (λ placed. (placed, drafted shown c.lengthen.new.draft.list)) (leaving_head size pages c.args.head (lengthened size pages first last tail c.args.entry)) (leaving_head size pages c.args.head (appended size pages first c.args.entry)) c.lengthen.result
    (λ a h at. head_on size first (lengthened size pages first last tail c.args.entry) (appended size pages first c.args.entry) a (long size pages first last c.args.entry c.args.head.held tail (sym c.last_page-last.ensures) at at_last end room) (h at))
    (c.lengthen.ensures.lengthened base shown told)

pub returns-clause-appended : goal.returns-clause-appended
returns-clause-appended g c = λ base shown told at.
    let size = c.args.draft.now.size in
    let pages = drafted shown c.args.draft.now.list in
    let first = c.args.head.page in
    let last = c.last_page-last.result in
    let tail = c.in_ok-tail.tail in
    let at_last = c.in_ok-tail.ensures.read base shown told in
    let end : eqb 0 tail.next ≡ true = eq-eqb 0 tail.next (sym c.if-tail-ne0.false) in
    let room : have_room (tail.entries ++ c.args.entry ∷ []) ≡ true = rw c.as_slice.ensures at (sym c.has_room.ensures.room ∙ c.if-not-has_room.false) in
    let stored = rw c.in_ok-push.ensures.ok at (c.in_ok-store.ensures.drafted shown) in
    let differ : first ≢ last = λ e. c.if-last-first.false (sym e) in (
      fitted size pages (drafted shown c.store.new.draft.list) first last c.args.entry c.args.head.held tail (sym c.last_page-last.ensures) at at_last end room stored,
      subst (λ (p : Pages). IsAt size p first c.args.head.held) (sym stored) (at-other size pages first last _ c.args.head.held differ at),
    )
