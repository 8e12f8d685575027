use Rattle.std.proofs.Common.{◌≡◌, ◌∙◌, ◌++◌, ◌∷◌, [], true, false, eqb, sym, subst, arith, inr}
use Rattle.std.proofs.lemmas.Bool.{eq-eqb, ne_eqb}
use Rattle.pager.specs.Draft.{drafted}
use Rattle.pager.specs.Pages.{Pages}
use Rattle.heap_file.specs.declared.page.HeapPage.{HeapPage}
use Rattle.heap_file.specs.Chain.{IsAt}
use Rattle.heap_file.specs.HeapPage.{IsHeapPage, have_room}
use Rattle.heap_file.specs.Work.{appended, leaving_head, lengthened}
use Rattle.heap_file.proofs.Heads.{at-own, ended, fitted, head_on, long}
use Rattle.heap_file.proofs.Packing.{entry_is, pushed_fits}
use Rattle.heap_file.proofs.Ways.{allowed_on}
use Rattle.heap_file.proofs.appending.append_first.Goals as goal

pub lengthen_first-requires-clause-entry : goal.lengthen_first-requires-clause-entry
lengthen_first-requires-clause-entry g c = entry_is c.args.entry c.requires.number c.has_room.ensures.row c.requires.entry

pub store-requires-clause-held : goal.store-requires-clause-held
store-requires-clause-held g c =
    let room = rw c.as_slice.ensures at (sym c.has_room.ensures.room ∙ c.if-not-has_room.false) in
    rw c.in_ok-push.ensures.ok (pushed_fits c.args.head.held c.args.entry c.requires.head.1 (entry_is c.args.entry c.requires.number c.has_room.ensures.row c.requires.entry) room)

pub returns-clause-lawful : goal.returns-clause-lawful
returns-clause-lawful g c =
    let room = rw c.as_slice.ensures at (sym c.has_room.ensures.room ∙ c.if-not-has_room.false) in
    rw c.in_ok-push.ensures.ok (pushed_fits c.args.head.held c.args.entry c.requires.head.1 (entry_is c.args.entry c.requires.number c.has_room.ensures.row c.requires.entry) room)

pub returns-then-head-ne0-clause-appended : goal.returns-then-head-ne0-clause-appended
returns-then-head-ne0-clause-appended g c = λ base shown told.
    let head = c.args.head.held in
    inr (λ at. ended c.args.draft.now.size (drafted shown c.args.draft.now.list) c.args.head.page c.args.entry head head c.broken.result at (rw c.requires.only at) (ne_eqb 0 head.next (λ e. c.if-head-ne0.true (sym e))) (rw c.requires.only c.broken.ensures))

pub returns-then-not-has_room-clause-appended : goal.returns-then-not-has_room-clause-appended
returns-then-not-has_room-clause-appended g c = λ base shown told.
    let size = c.args.draft.now.size in
    let pages = drafted shown c.args.draft.now.list in
    let first = c.args.head.page in
    let head = c.args.head.held in
    let end : eqb 0 head.next ≡ true = eq-eqb 0 head.next (sym c.if-head-ne0.false) in
    let room : have_room (head.entries ++ c.args.entry ∷ []) ≡ false = rw c.as_slice.ensures at (sym c.has_room.ensures.room ∙ c.if-not-has_room.true) in
    allowed_on (λ placed. (placed, drafted shown c.lengthen_first.new.draft.list)) (leaving_head size pages c.args.head (lengthened size pages first first head c.args.entry)) (leaving_head size pages c.args.head (appended size pages first c.args.entry)) c.lengthen_first.result
    (λ a h at. head_on size first (lengthened size pages first first head c.args.entry) (appended size pages first c.args.entry) a (long size pages first first c.args.entry head head c.requires.only at at end room) (h at))
    (c.lengthen_first.ensures.lengthened base shown told)

pub returns-clause-appended : goal.returns-clause-appended
returns-clause-appended g c = λ base shown told at.
    let size = c.args.draft.now.size in
    let pages = drafted shown c.args.draft.now.list in
    let first = c.args.head.page in
    let head = c.args.head.held in
    let pushed : HeapPage = record head { entries = head.entries ++ c.args.entry ∷ [] } in
    let end : eqb 0 head.next ≡ true = eq-eqb 0 head.next (sym c.if-head-ne0.false) in
    let room : have_room (head.entries ++ c.args.entry ∷ []) ≡ true = rw c.as_slice.ensures at (sym c.has_room.ensures.room ∙ c.if-not-has_room.false) in
    let lawful : IsHeapPage pushed = pushed_fits head c.args.entry c.requires.head.1 (entry_is c.args.entry c.requires.number c.has_room.ensures.row c.requires.entry) room in
    let stored = rw c.in_ok-push.ensures.ok at (c.in_ok-store.ensures.drafted shown) in (
      fitted size pages (drafted shown c.store.new.draft.list) first first c.args.entry head head c.requires.only at at end room stored,
      rw c.in_ok-push.ensures.ok (subst (λ (p : Pages). IsAt size p first pushed) (sym stored) (at-own size pages first pushed at.named at.there (record { next = omega arith; next_number = omega arith; last = omega arith }) lawful)),
    )
