use Rattle.std.proofs.Common.{◌∙◌, get_or}
use Rattle.std.proofs.lemmas.List.{get_or_default}
use Rattle.relation.specs.declared.catalog.StoredIndex.{StoredIndex}
use Rattle.std.proofs.lemmas.Result.{err_from_is_err_and}
use Rattle.heap_file.proofs.Ways.{allowed_stop}
use Rattle.relation.specs.Entries.{edit_of, entries_edited, entries_of}
use Rattle.pager.proofs.Turns.{in_turn-ended, in_turn-next}
use Rattle.relation.proofs.listing.list_rows.Goals as goal

pub returns-in_err-list_in-clause-edited : goal.returns-in_err-list_in-clause-edited
returns-in_err-list_in-clause-edited g c = λ base shown told.
    let p = err_from_is_err_and c.from_residual.result c.from_residual.ensures.1 in
    let inv = c.loop-index.invariant in
    let zero : StoredIndex = record { place = 0; root = 0 } in
    rw (p.1, p.2)
    (allowed_stop c.in_err-list_in.field-0.0
    (λ why h. in_turn-ended (λ (index : StoredIndex). entries_edited (edit_of g.I.Index.added g.I.Index.removed c.args.edit) c.args.draft.now.size index.root (entries_of index.place c.args.rows.now)) c.args.indexes.now c.loop-index.index-index (get_or c.args.indexes.now c.loop-index.index-index zero) _ _ why c.loop-index-test.true (get_or_default c.args.indexes.now c.loop-index.index-index zero (get_or c.args.indexes.now c.loop-index.index-index zero) c.loop-index-test.true) (inv.done base shown (c.in_err-list_in.ensures.only_drafts.narrows base shown told)) h)
    (rw inv.draft_size at (c.in_err-list_in.ensures.edited base shown told)))

pub loop-index-preserved : goal.loop-index-preserved
loop-index-preserved g c =
    let inv = c.loop-index.invariant in
    let drafts = c.in_ok-list_in.ensures.only_drafts in
    let zero : StoredIndex = record { place = 0; root = 0 } in
    record {
      done = λ base shown told.
          in_turn-next (λ (index : StoredIndex). entries_edited (edit_of g.I.Index.added g.I.Index.removed c.args.edit) c.args.draft.now.size index.root (entries_of index.place c.args.rows.now)) c.args.indexes.now c.loop-index.index-index (get_or c.args.indexes.now c.loop-index.index-index zero) tt _ _ _ c.loop-index-test.true (get_or_default c.args.indexes.now c.loop-index.index-index zero (get_or c.args.indexes.now c.loop-index.index-index zero) c.loop-index-test.true) (inv.done base shown (drafts.narrows base shown told))
          (rw inv.draft_size at (c.in_ok-list_in.ensures.edited base shown told));
      draft_size = c.in_ok-list_in.ensures.size ∙ inv.draft_size;
      narrows = λ base shown told. inv.narrows base shown (drafts.narrows base shown told);
      goes = g.met.P.Pager.goes_on _ _ _ inv.goes drafts.goes_on;
      size = drafts.size_stays ∙ inv.size;
      steady = drafts.cause ∙ inv.steady;
    }
