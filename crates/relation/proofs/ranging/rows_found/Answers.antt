use Rattle.std.proofs.Common.{◌≡◌, ◌∙◌, ◌++◌, [], Err, Ok, Option, inl, inr, refl}
use Rattle.std.specs.List.{cons_option}
use Rattle.std.proofs.lemmas.List.{append-nil}
use Rattle.std.proofs.lemmas.Result.{err_from_is_err_and}
use Rattle.pager.specs.Draft.{drafted}
use Rattle.heap_file.proofs.Ways.{allowed_stop}
use Rattle.heap_file.specs.Work.{row_numbered}
use Rattle.heap_file.specs.declared.chain.Placed.{Placed}
use Rattle.relation.specs.Work.{row_found}
use Rattle.relation.proofs.Reached.{each_some-ended, each_some-next, found-on, pass-more, same-found}
use Rattle.relation.proofs.ranging.rows_found.Goals as goal
use Rattle.relation.proofs.ranging.rows_found.Goals.{in-Some+in_ok-push, in_default}

pub returns-in_err-link-clause-told : goal.returns-in_err-link-clause-told
returns-in_err-link-clause-told g c = λ base shown told.
    let p = err_from_is_err_and c.from_residual.result c.from_residual.ensures.1 in
    let inv = c.loop-entry.invariant in
    let before = c.in_err-link.ensures.only_reads.narrows base shown told in
    rw (p.1, p.2)
    (allowed_stop c.in_err-link.field-0.0
    (λ why h. each_some-ended (row_found (g.S.Sieve.passes c.args.sieve.now) c.args.draft.now.size (drafted shown c.args.draft.now.list)) c.args.found.now c.loop-entry.entry-index c.entry-item.result c.loop-entry.rows.items why c.loop-entry-test.true c.entry-item.is (inv.done base shown before) (inl (inl (h (inv.known base shown before)))))
    (c.in_err-link.ensures.read base shown told))

pub returns-in_err-placed-clause-told : goal.returns-in_err-placed-clause-told
returns-in_err-placed-clause-told g c = λ base shown told.
    let p = err_from_is_err_and c.from_residual-in_err-placed.result c.from_residual-in_err-placed.ensures.1 in
    let inv = c.loop-entry.invariant in
    let before = c.in_ok-link.ensures.only_reads.narrows base shown told in
    let at = c.in_ok-link.ensures.read base shown told (inv.known base shown before) in
    let size = c.args.draft.now.size in
    let pages = drafted shown c.args.draft.now.list in
    let passes = g.S.Sieve.passes c.args.sieve.now in
    let entry = c.entry-item.result in
    let why = c.in_err-placed.field-0.0 in
    rw (p.1, p.2)
    (elim c.in_err-placed.ensures.found [
      | inl memory ↦ inl memory
      | inr refused ↦ inr (each_some-ended (row_found passes size pages) c.args.found.now c.loop-entry.entry-index entry c.loop-entry.rows.items why c.loop-entry-test.true c.entry-item.is (inv.done base shown before)
          (found-on passes size pages entry c.in_ok-link.link (Err why) at.0 at.1 (same-found (g.S.Sieve.passes c.loop-entry.sieve) passes entry (row_numbered entry.number c.in_ok-link.link.held.entries) (Err why) inv.stays refused)))
    ])

pub loop-entry-preserved : goal.loop-entry-preserved
loop-entry-preserved g c =
    let inv = c.loop-entry.invariant in
    let reads = c.in_ok-link.ensures.only_reads in
    let size = c.args.draft.now.size in
    let passes = g.S.Sieve.passes c.args.sieve.now in
    let other = g.S.Sieve.passes c.loop-entry.sieve in
    let entry = c.entry-item.result in
    let rows = c.loop-entry.rows.items in
    let row = row_numbered entry.number c.in_ok-link.link.held.entries in
    let found : Option Placed = c.in_ok-placed.field-0 in
    let more : c.match-branch-3.rows.items ≡ rows ++ cons_option found [] =
    elim c.match-branch-3.branch [
      | in-Some+in_ok-push w ↦ rw (w.rows-is, w.in_ok-push.ensures.items, w.in-Some.is) refl
      | in_default w ↦ rw (w.rows-is, w.in_default.is, append-nil) refl
    ] in
    record {
      done = λ base shown told.
          let before = reads.narrows base shown told in
          let at = c.in_ok-link.ensures.read base shown told (inv.known base shown before) in
          rw more
          (each_some-next (row_found passes size (drafted shown c.args.draft.now.list)) c.args.found.now c.loop-entry.entry-index entry rows found c.loop-entry-test.true c.entry-item.is (inv.done base shown before)
          (found-on passes size (drafted shown c.args.draft.now.list) entry c.in_ok-link.link (Ok found) at.0 at.1 (same-found other passes entry row (Ok found) inv.stays c.in_ok-placed.ensures.found)));
      known = λ base shown told. (c.in_ok-link.ensures.read base shown told (inv.known base shown (reads.narrows base shown told))).1;
      writable = c.in_ok-link.ensures.writable;
      passed = rw more (pass-more other passes rows found inv.stays inv.passed c.in_ok-placed.ensures.passed);
      stays = c.in_ok-placed.ensures.stays ∙ inv.stays;
      narrows = λ base shown told. inv.narrows base shown (reads.narrows base shown told);
      goes = g.met.P.Pager.goes_on _ _ _ inv.goes reads.goes_on;
      size = reads.size_stays ∙ inv.size;
      steady = reads.cause ∙ inv.steady;
    }
