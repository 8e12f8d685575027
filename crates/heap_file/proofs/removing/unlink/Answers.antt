use Rattle.std.proofs.Common.{◌≡◌, ◌∙◌, Ok, Err, refl, inl, inr, arith}
use Rattle.std.proofs.lemmas.Result.{err_from_is_err_and}
use Rattle.pager.specs.Draft.{drafted}
use Rattle.pager.specs.Pages.{Pages, with_bytes}
use Rattle.pager.specs.Root.{freed}
use Rattle.heap_file.specs.declared.page.HeapPage.{HeapPage}
use Rattle.heap_file.specs.HeapPage.{IsNarrow, page_bytes}
use Rattle.heap_file.specs.Work.{unlinked}
use Rattle.heap_file.proofs.Routes.{passed-freed}
use Rattle.heap_file.proofs.Ways.{allowed_stop, allowed_on, renamed_at, unlinked_end}
use Rattle.heap_file.proofs.removing.unlink.Goals as goal

pub returns-in_err-rename_last-clause-unlinked : goal.returns-in_err-rename_last-clause-unlinked
returns-in_err-rename_last-clause-unlinked g c = λ base shown told.
    let size = c.args.draft.now.size in
    let pages = drafted shown c.args.draft.now.list in
    let linked : Pages = with_bytes pages c.args.previous (page_bytes (record c.in_ok-before.before { next = c.args.next })) in
    let p = err_from_is_err_and c.from_residual-in_err-rename_last.result c.from_residual-in_err-rename_last.ensures.1 in
    let before = c.in_ok-before.ensures.read base shown (c.in_err-rename_last.ensures.only_reads.narrows base shown told) in
    rw (p.1, p.2)
    (allowed_stop c.in_err-rename_last.field-0.0 (λ why h. inr (c.in_ok-before.before, before, inl (renamed_at size c.store.new.draft.size linked (drafted shown c.store.new.draft.list) c.args.first c.args.previous c.args.next (Err why) c.in_ok-store.ensures.size (c.in_ok-store.ensures.drafted shown) h)))
    (c.in_err-rename_last.ensures.renamed base shown told))

pub returns-clause-unlinked : goal.returns-clause-unlinked
returns-clause-unlinked g c = λ base shown told.
    let size = c.args.draft.now.size in
    let pages = drafted shown c.args.draft.now.list in
    let linked : Pages = with_bytes pages c.args.previous (page_bytes (record c.in_ok-before.before { next = c.args.next })) in
    let mid = drafted shown c.rename_last.new.draft.list in
    let told-named = c.free.ensures.only_reads.narrows base shown told in
    let before = c.in_ok-before.ensures.read base shown (c.in_ok-rename_last.ensures.only_reads.narrows base shown told-named) in
    let named = renamed_at size c.store.new.draft.size linked (drafted shown c.store.new.draft.list) c.args.first c.args.previous c.args.next (Ok (tt, mid)) c.in_ok-store.ensures.size (c.in_ok-store.ensures.drafted shown) (c.in_ok-rename_last.ensures.renamed base shown told-named) in
    let width : c.rename_last.new.draft.size ≡ size = c.in_ok-rename_last.ensures.size ∙ c.in_ok-store.ensures.size in
    allowed_on (λ u. (u, drafted shown c.free.new.draft.list)) (λ a. freed size mid c.args.page ≡ a) (unlinked size pages c.args.first c.args.previous c.args.page c.args.next) c.free.result
    (unlinked_end size pages mid c.args.first c.args.previous c.args.page c.args.next c.in_ok-before.before before named)
    (rw width at (c.free.ensures.freed base shown told))

pub returns-clause-passes : goal.returns-clause-passes
returns-clause-passes g c = λ apart base shown told.
    let size = c.args.draft.now.size in
    let pages = drafted shown c.args.draft.now.list in
    let linked : HeapPage = record c.in_ok-before.before { next = c.args.next } in
    let told-named = c.free.ensures.only_reads.narrows base shown told in
    let before = c.in_ok-before.ensures.read base shown (c.in_ok-rename_last.ensures.only_reads.narrows base shown told-named) in
    let width : c.rename_last.new.draft.size ≡ size = c.in_ok-rename_last.ensures.size ∙ c.in_ok-store.ensures.size in
    let narrow : IsNarrow linked = record { next = omega arith; next_number = c.in_ok-before.ensures.narrow.next_number; last = c.in_ok-before.ensures.narrow.last } in
    let stays = rw (c.in_ok-store.ensures.drafted shown, c.in_ok-store.ensures.size) at (c.in_ok-rename_last.ensures.stays base shown told-named) in
    passed-freed c.free.result size pages (drafted shown c.rename_last.new.draft.list) (drafted shown c.free.new.draft.list) c.args.first c.args.previous c.args.page c.args.next c.in_ok-before.before linked (rw width at (c.free.ensures.freed base shown told)) apart before refl narrow (record { lawful = c.in_ok-before.ensures.lawful.lawful; fits = c.in_ok-before.ensures.lawful.fits }) stays
