use Rattle.std.proofs.Common.{◌≡◌, ◌∙◌, ◌++◌, ◌∷◌, [], List, true, false, Ok, Err, ap, sym, subst, inl, inr, arith}
use Rattle.std.proofs.lemmas.Result.{err_from_is_err_and}
use Rattle.values.specs.declared.value.Value.{Value}
use Rattle.pager.specs.Draft.{drafted}
use Rattle.pager.specs.Pages.{Pages, with_bytes}
use Rattle.heap_file.specs.declared.page.Entry.{Entry}
use Rattle.heap_file.specs.Chain.{IsAt}
use Rattle.heap_file.specs.HeapPage.{IsNarrow, IsShort, page_bytes, have_room}
use Rattle.heap_file.specs.Work.{appended, without}
use Rattle.heap_file.proofs.Heads.{at-own}
use Rattle.heap_file.proofs.Packing.{entry_is}
use Rattle.heap_file.proofs.Ways.{allowed_stop, appended_at, changed_moved}
use Rattle.heap_file.proofs.drafting.change_on.Goals as goal

pub with_entry-requires-clause-entry : goal.with_entry-requires-clause-entry
with_entry-requires-clause-entry g c =
    let short = subst IsShort (sym c.in_ok-row.ensures) c.requires.row in
    entry_is (record { number = c.args.number; row = c.in_ok-row.row }) (omega arith) c.has_room.ensures.row short

pub returns-in_default-clause-changed : goal.returns-in_default-clause-changed
returns-in_default-clause-changed g c = λ base shown told.
    let none = rw (c.as_slice.ensures, c.in_default.is) at (sym c.place_of.ensures) in
    inr (λ at. inr (c.args.link.held, at, inl (c.broken.ensures, none)))

pub returns-in_err-to-clause-changed : goal.returns-in_err-to-clause-changed
returns-in_err-to-clause-changed g c = λ base shown told.
    let p = err_from_is_err_and c.from_residual-in_err-to.result c.from_residual-in_err-to.ensures.1 in
    let size = c.args.draft.now.size in
    let pages = drafted shown c.args.draft.now.list in
    let held = c.args.link.held in
    let place = c.in-Some.place in
    let entry : Entry = record { number = c.args.number; row = c.args.row.now } in
    let moved : Pages = with_bytes pages c.args.link.page (page_bytes (without held place)) in
    let is = rw c.as_slice.ensures at (sym c.in-Some.ensures) in
    let rest = c.without-rest.ensures.without in
    let room : have_room ((without held place).entries ++ entry ∷ []) ≡ false = rw (c.as_slice-2.ensures, rest, c.in_ok-row.ensures) at (sym c.has_room.ensures.room ∙ c.if-not-has_room.true) in
    let stored : drafted shown c.store.new.draft.list ≡ moved = rw rest at (c.in_ok-store.ensures.drafted shown) in
    rw (p.1, p.2)
    (allowed_stop c.in_err-to.field-0.0
    (λ why h at. changed_moved size pages c.args.first c.args.link.page place held entry at is room (Err why)
    (appended_at size c.store.new.draft.size moved (drafted shown c.store.new.draft.list) c.args.first entry (Err why) c.in_ok-store.ensures.size stored
    (subst (λ (row : List Value). appended c.store.new.draft.size (drafted shown c.store.new.draft.list) c.args.first (record { number = c.args.number; row = row }) (Err why)) c.in_ok-row.ensures h)))
    (c.in_err-to.ensures.appended base shown told))

pub returns-then-not-has_room-clause-changed : goal.returns-then-not-has_room-clause-changed
returns-then-not-has_room-clause-changed g c = λ base shown told at.
    let size = c.args.draft.now.size in
    let pages = drafted shown c.args.draft.now.list in
    let held = c.args.link.held in
    let place = c.in-Some.place in
    let entry : Entry = record { number = c.args.number; row = c.args.row.now } in
    let moved : Pages = with_bytes pages c.args.link.page (page_bytes (without held place)) in
    let is = rw c.as_slice.ensures at (sym c.in-Some.ensures) in
    let rest = c.without-rest.ensures.without in
    let room : have_room ((without held place).entries ++ entry ∷ []) ≡ false = rw (c.as_slice-2.ensures, rest, c.in_ok-row.ensures) at (sym c.has_room.ensures.room ∙ c.if-not-has_room.true) in
    let stored : drafted shown c.store.new.draft.list ≡ moved = rw rest at (c.in_ok-store.ensures.drafted shown) in
    let answer = Ok (c.in_ok-to.to, drafted shown c.append.new.draft.list) in (
      changed_moved size pages c.args.first c.args.link.page place held entry at is room answer
          (appended_at size c.store.new.draft.size moved (drafted shown c.store.new.draft.list) c.args.first entry answer c.in_ok-store.ensures.size stored
          (subst (λ (row : List Value). appended c.store.new.draft.size (drafted shown c.store.new.draft.list) c.args.first (record { number = c.args.number; row = row }) answer) c.in_ok-row.ensures (c.in_ok-to.ensures.appended base shown told))),
      tt,
    )

pub returns-clause-changed : goal.returns-clause-changed
returns-clause-changed g c = λ base shown told at.
    let size = c.args.draft.now.size in
    let page = c.args.link.page in
    let held = c.args.link.held in
    let place = c.in-Some.place in
    let entry : Entry = record { number = c.args.number; row = c.args.row.now } in
    let now = c.in_ok-held.held in
    let is = rw c.as_slice.ensures at (sym c.in-Some.ensures) in
    let rest = c.without-rest.ensures.without in
    let room : have_room ((without held place).entries ++ entry ∷ []) ≡ true = rw (c.as_slice-2.ensures, rest, c.in_ok-row.ensures) at (sym c.has_room.ensures.room ∙ c.if-not-has_room.false) in
    let narrow : IsNarrow now = rw (c.in_ok-held.ensures.0, rest) (record { next = omega arith; next_number = omega arith; last = omega arith }) in
    let written_now = c.in_ok-store-2.ensures.drafted shown in
    let stored = rw (c.in_ok-held.ensures.0, rest, c.in_ok-row.ensures) at written_now in (
      (held, at, (place, is, rw room (ap (λ (pages : Pages). Ok (page, pages)) (sym stored)))),
      subst (λ (p : Pages). IsAt size p page now) (sym written_now) (at-own size (drafted shown c.args.draft.now.list) page now at.named at.there narrow c.in_ok-held.ensures.1),
    )
