use Rattle.std.proofs.Common.{◌≡◌, ◌∙◌, true, false, Ok, drop, take, ap, inl, sym, arith}
use Rattle.std.specs.List.{AllByRecursion}
use Rattle.std.proofs.lemmas.Bool.{le-leb, lt-leb}
use Rattle.std.proofs.lemmas.Result.{err_from_is_err_and}
use Rattle.pager.specs.Draft.{drafted}
use Rattle.pager.specs.Index.{IsFound}
use Rattle.pager.specs.Pages.{Pages, with_bytes}
use Rattle.index_page.specs.IndexPage.{have_room, half, page_bytes, width}
use Rattle.run_index.specs.Run.{run_of}
use Rattle.run_index.specs.Shaping.{back-writable, front-writable}
use Rattle.pager.proofs.Stops.{allowed_stop}
use Rattle.run_index.proofs.index.store_run.Goals as goal

pub returns-then-width-le-ENTRY_BYTES-clause-stored : goal.returns-then-width-le-ENTRY_BYTES-clause-stored
returns-then-width-le-ENTRY_BYTES-clause-stored g c = λ base shown told.
    let total : c.width.result ≡ width c.args.entries = rw c.as_slice.ensures at c.width.ensures.width in
    let fit : have_room c.args.entries ≡ true = le-leb (width c.args.entries) 1016 (omega (arith, total)) in
    rw fit (ap (λ (p : Pages). Ok (tt, p)) (sym (c.in_ok-store.ensures.drafted shown)))

pub returns-in_err-next-clause-stored : goal.returns-in_err-next-clause-stored
returns-in_err-next-clause-stored g c = λ base shown told.
    let p = err_from_is_err_and c.from_residual-in_err-next.result c.from_residual-in_err-next.ensures.1 in
    let total : c.width.result ≡ width c.args.entries = rw c.as_slice.ensures at c.width.ensures.width in
    let full : have_room c.args.entries ≡ false = lt-leb (width c.args.entries) 1016 (omega (arith, total)) in
    rw (p.1, p.2, full) (allowed_stop c.in_err-next.field-0.0 (λ why h. inl (h, tt)) (c.in_err-next.ensures.taken base shown told))

pub store-requires-2-clause-held : goal.store-requires-2-clause-held
store-requires-2-clause-held g c =
    let lawful : AllByRecursion IsFound c.args.entries = rw c.as_slice.ensures at c.width.ensures.lawful in
    rw c.in_ok-front.ensures.1 (back-writable c.args.entries lawful (c.requires.short lawful))

pub store-requires-3-clause-held : goal.store-requires-3-clause-held
store-requires-3-clause-held g c =
    let lawful : AllByRecursion IsFound c.args.entries = rw c.as_slice.ensures at c.width.ensures.lawful in
    rw c.in_ok-front.ensures.0 (front-writable c.args.entries lawful (c.requires.short lawful))

pub returns-clause-stored : goal.returns-clause-stored
returns-clause-stored g c = λ base shown told.
    let entries = c.args.entries in
    let total : c.width.result ≡ width entries = rw c.as_slice.ensures at c.width.ensures.width in
    let full : have_room entries ≡ false = lt-leb (width entries) 1016 (omega (arith, total)) in
    let next = c.in_ok-next.next in
    let after : Pages = drafted shown c.take.new.draft.list in
    let behind : Pages = with_bytes after next (page_bytes (run_of c.args.link (drop (half entries) entries))) in
    let two : drafted shown c.store-2.new.draft.list ≡ behind =
    c.in_ok-store-2.ensures.drafted shown ∙ ap (λ es. with_bytes after next (page_bytes (run_of c.args.link es))) c.in_ok-front.ensures.1 in
    let three : drafted shown c.store-3.new.draft.list ≡ with_bytes behind c.args.page (page_bytes (run_of next (take (half entries) entries))) =
    c.in_ok-store-3.ensures.drafted shown ∙ ap (λ es. with_bytes (drafted shown c.store-2.new.draft.list) c.args.page (page_bytes (run_of next es))) c.in_ok-front.ensures.0 ∙ ap (λ (p : Pages). with_bytes p c.args.page (page_bytes (run_of next (take (half entries) entries)))) two in
    rw full ((next, after), (c.in_ok-next.ensures.taken base shown told, omega arith), ap (λ (p : Pages). Ok (tt, p)) (sym three))
