use Rattle.std.proofs.Common.{◌∙◌}
use Rattle.std.proofs.lemmas.Result.{err_from_is_err_and}
use Rattle.pager.proofs.Stops.{allowed_stop}
use Rattle.pager.proofs.Turns.{in_turn-ended, in_turn-next}
use Rattle.pager.proofs.index.Index.add_all_in.Goals as goal

pub returns-in_err-add_in-clause-added : goal.returns-in_err-add_in-clause-added
returns-in_err-add_in-clause-added g c = λ base shown told.
    let p = err_from_is_err_and c.from_residual.result c.from_residual.ensures.1 in
    let inv = c.loop-entry.invariant in
    rw (p.1, p.2)
    (allowed_stop c.in_err-add_in.field-0.0
    (λ why h. in_turn-ended (g.Self.Index.added c.args.draft.now.size (g.Self.Index.root c.args.self.now)) c.args.found.now c.loop-entry.entry-index c.entry-item.result _ _ why c.loop-entry-test.true c.entry-item.is (inv.done base shown (c.in_err-add_in.ensures.only_drafts.narrows base shown told)) h)
    (rw inv.draft_size at (c.in_err-add_in.ensures.added base shown told)))

pub loop-entry-preserved : goal.loop-entry-preserved
loop-entry-preserved g c =
    let inv = c.loop-entry.invariant in
    let drafts = c.in_ok-add_in.ensures.only_drafts in
    record {
      done = λ base shown told.
          in_turn-next (g.Self.Index.added c.args.draft.now.size (g.Self.Index.root c.args.self.now)) c.args.found.now c.loop-entry.entry-index c.entry-item.result tt _ _ _ c.loop-entry-test.true c.entry-item.is (inv.done base shown (drafts.narrows base shown told))
          (rw inv.draft_size at (c.in_ok-add_in.ensures.added base shown told));
      draft_size = c.in_ok-add_in.ensures.size ∙ inv.draft_size;
      narrows = λ base shown told. inv.narrows base shown (drafts.narrows base shown told);
      goes = g.met.P.Pager.goes_on _ _ _ inv.goes drafts.goes_on;
      size = drafts.size_stays ∙ inv.size;
      steady = drafts.cause ∙ inv.steady;
    }
