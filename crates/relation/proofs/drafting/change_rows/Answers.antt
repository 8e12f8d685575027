use Rattle.std.proofs.Common.{◌∙◌, ◌++◌, ◌∷◌, [], List, Err, ap, arith, inl, subst, suc, sym}
use Rattle.std.proofs.lemmas.List.{append_assoc}
use Rattle.std.proofs.lemmas.Result.{err_from_is_err_and}
use Rattle.pager.specs.Draft.{drafted}
use Rattle.heap_file.proofs.Ways.{allowed_stop}
use Rattle.relation.specs.declared.drafting.RowChange.{RowChange}
use Rattle.relation.specs.Work.{all_changed, row_changes}
use Rattle.relation.proofs.Steps.{each_in_turn-push, each_in_turn-stop}
use Rattle.relation.proofs.drafting.change_rows.Goals as goal

pub returns-in_err-moved-clause-changed : goal.returns-in_err-moved-clause-changed
returns-in_err-moved-clause-changed g c = λ base shown told.
    let p = err_from_is_err_and c.from_residual.result c.from_residual.ensures.1 in
    let inv = c.loop-change.invariant in
    let size = c.args.draft.now.size in
    let before = c.in_err-moved.ensures.only_drafts.narrows base shown told in
    let known = rw inv.draft_size at (inv.known base shown before) in
    let whole = ap (λ (l : List RowChange). c.loop-change.yielded ++ l) (sym c.in-Some.ensures.steps.0) ∙ inv.split in
    rw (p.1, p.2)
    (allowed_stop c.in_err-moved.field-0.0
    (λ why h. subst (λ (l : List RowChange). all_changed size c.args.first l (drafted shown c.args.draft.now.list) (Err why)) whole
    (each_in_turn-stop (row_changes size c.args.first) c.loop-change.yielded c.in-Some.change c.next.new.self.rest.items c.loop-change.moves.items _ _ why (inv.done base shown before) (h known)))
    (rw inv.draft_size at (c.in_err-moved.ensures.changed base shown told)))

pub returns-in_err-push-clause-only_drafts : goal.returns-in_err-push-clause-only_drafts
returns-in_err-push-clause-only_drafts g c =
    let p = err_from_is_err_and c.from_residual-in_err-push.result c.from_residual-in_err-push.ensures.1 in
    let inv = c.loop-change.invariant in
    let drafts = c.in_ok-moved.ensures.only_drafts in
    rw (p.1, p.2) (record {
      narrows = λ base shown told. inv.narrows base shown (drafts.narrows base shown told);
      goes_on = g.met.P.Pager.goes_on _ _ _ inv.goes drafts.goes_on;
      size_stays = drafts.size_stays ∙ inv.size;
      cause = drafts.cause ∙ inv.steady;
      named = inl tt;
    })

pub loop-change-preserved : goal.loop-change-preserved
loop-change-preserved g c =
    let inv = c.loop-change.invariant in
    let drafts = c.in_ok-moved.ensures.only_drafts in
    let yielded = c.loop-change.yielded in
    record {
      split = append_assoc yielded (c.in-Some.change ∷ []) c.next.new.self.rest.items ∙ ap (λ (l : List RowChange). yielded ++ l) (sym c.in-Some.ensures.steps.0) ∙ inv.split;
      short = λ k d lt. (rw c.in-Some.ensures.steps.0 at inv.short) (suc k) d (omega (arith, lt));
      done = λ base shown told.
          let before = drafts.narrows base shown told in
          let known = rw inv.draft_size at (inv.known base shown before) in
          let made = (rw inv.draft_size at (c.in_ok-moved.ensures.changed base shown told)) known in
          rw c.in_ok-push.ensures.items
          (each_in_turn-push (row_changes c.args.draft.now.size c.args.first) yielded c.in-Some.change c.loop-change.moves.items c.in_ok-moved.moved _ _ _ (inv.done base shown before) made);
      known = λ base shown told.
          let before = drafts.narrows base shown told in
          rw c.in_ok-moved.ensures.size (c.in_ok-moved.ensures.stands base shown told (inv.known base shown before));
      writable = rw c.in_ok-moved.ensures.size c.in_ok-moved.ensures.writable;
      draft_size = c.in_ok-moved.ensures.size ∙ inv.draft_size;
      narrows = λ base shown told. inv.narrows base shown (drafts.narrows base shown told);
      goes = g.met.P.Pager.goes_on _ _ _ inv.goes drafts.goes_on;
      size = drafts.size_stays ∙ inv.size;
      steady = drafts.cause ∙ inv.steady;
    }
