use Rattle.std.proofs.Common.{◌∙◌}
use Rattle.std.proofs.lemmas.Result.{err_from_is_err_and}
use Rattle.pager.specs.Pages.{Pages}
use Rattle.heap_file.specs.declared.chain.Placed.{Placed}
use Rattle.heap_file.specs.Work.{removed}
use Rattle.heap_file.proofs.Ways.{allowed_stop}
use Rattle.pager.proofs.Turns.{in_turn-next, in_turn-ended}
use Rattle.relation.proofs.drafting.remove_rows.Goals as goal

pub returns-in_err-cursor-clause-removed : goal.returns-in_err-cursor-clause-removed
returns-in_err-cursor-clause-removed g c = λ base shown told.
    let p = err_from_is_err_and c.from_residual.result c.from_residual.ensures.1 in
    let before = c.in_err-cursor.ensures.only_reads.narrows base shown told in
    let stands = rw c.loop-placed.invariant.draft_size at (c.loop-placed.invariant.stands base shown before) in
    rw (p.1, p.2)
    (allowed_stop c.in_err-cursor.field-0.0
    (λ why h. in_turn-ended (λ (placed : Placed) (pages : Pages). removed c.args.draft.now.size pages c.args.first placed.page placed.number) c.args.rows.now c.loop-placed.placed-index c.placed-item.result _ _ why c.loop-placed-test.true c.placed-item.is (c.loop-placed.invariant.done base shown before) (h stands))
    (rw c.loop-placed.invariant.draft_size at (c.in_err-cursor.ensures.removed base shown told)))

pub loop-placed-preserved : goal.loop-placed-preserved
loop-placed-preserved g c =
    let drafts = c.in_ok-cursor.ensures.only_reads in
    record {
      done = λ base shown told.
          let before = drafts.narrows base shown told in
          let stands = rw c.loop-placed.invariant.draft_size at (c.loop-placed.invariant.stands base shown before) in
          let made = (rw c.loop-placed.invariant.draft_size at (c.in_ok-cursor.ensures.removed base shown told)) stands in
          in_turn-next (λ (placed : Placed) (pages : Pages). removed c.args.draft.now.size pages c.args.first placed.page placed.number) c.args.rows.now c.loop-placed.placed-index c.placed-item.result tt _ _ _ c.loop-placed-test.true c.placed-item.is (c.loop-placed.invariant.done base shown before) made.0;
      stands = λ base shown told.
          rw c.in_ok-cursor.ensures.size (c.in_ok-cursor.ensures.removed base shown told (c.loop-placed.invariant.stands base shown (drafts.narrows base shown told))).1;
      writable = rw c.in_ok-cursor.ensures.size c.in_ok-cursor.ensures.writable;
      draft_size = c.in_ok-cursor.ensures.size ∙ c.loop-placed.invariant.draft_size;
      narrows = λ base shown told. c.loop-placed.invariant.narrows base shown (drafts.narrows base shown told);
      goes = g.met.P.Pager.goes_on _ _ _ c.loop-placed.invariant.goes drafts.goes_on;
      size = drafts.size_stays ∙ c.loop-placed.invariant.size;
      steady = drafts.cause ∙ c.loop-placed.invariant.steady;
    }
