use Rattle.std.proofs.Common.{◌∙◌}
use Rattle.std.proofs.lemmas.Result.{err_from_is_err_and}
use Rattle.heap_file.proofs.Ways.{allowed_stop}
use Rattle.relation.specs.Entries.{row_moved}
use Rattle.pager.proofs.Turns.{in_turn-ended, in_turn-next}
use Rattle.relation.proofs.listing.move_in.Goals as goal

pub returns-in_err-move_row-clause-moved : goal.returns-in_err-move_row-clause-moved
returns-in_err-move_row-clause-moved g c = λ base shown told.
    let p = err_from_is_err_and c.from_residual.result c.from_residual.ensures.1 in
    let inv = c.loop-moved.invariant in
    rw (p.1, p.2)
    (allowed_stop c.in_err-move_row.field-0.0
    (λ why h. in_turn-ended (row_moved g.I.Index.added g.I.Index.removed c.args.draft.now.size c.args.index) c.args.moves.now c.loop-moved.moved-index c.moved-item.result _ _ why c.loop-moved-test.true c.moved-item.is (inv.done base shown (c.in_err-move_row.ensures.only_drafts.narrows base shown told)) h)
    (rw inv.draft_size at (c.in_err-move_row.ensures.moved base shown told)))

pub loop-moved-preserved : goal.loop-moved-preserved
loop-moved-preserved g c =
    let inv = c.loop-moved.invariant in
    let drafts = c.in_ok-move_row.ensures.only_drafts in
    record {
      done = λ base shown told.
          in_turn-next (row_moved g.I.Index.added g.I.Index.removed c.args.draft.now.size c.args.index) c.args.moves.now c.loop-moved.moved-index c.moved-item.result tt _ _ _ c.loop-moved-test.true c.moved-item.is (inv.done base shown (drafts.narrows base shown told))
          (rw inv.draft_size at (c.in_ok-move_row.ensures.moved base shown told));
      draft_size = c.in_ok-move_row.ensures.size ∙ inv.draft_size;
      narrows = λ base shown told. inv.narrows base shown (drafts.narrows base shown told);
      goes = g.met.P.Pager.goes_on _ _ _ inv.goes drafts.goes_on;
      size = drafts.size_stays ∙ inv.size;
      steady = drafts.cause ∙ inv.steady;
    }
