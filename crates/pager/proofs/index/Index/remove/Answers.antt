use Rattle.std.proofs.lemmas.Result.{err_from_is_err_and}
use Rattle.pager.proofs.Makings.{makes-all, makes-none, makes-part}
use Rattle.pager.proofs.index.Index.remove.Goals as goal

pub returns-in_err-remove_in-clause-removed : goal.returns-in_err-remove_in-clause-removed
returns-in_err-remove_in-clause-removed g c =
    let p = err_from_is_err_and c.from_residual.result c.from_residual.ensures.1 in
    rw (p.1, p.2)
    (makes-none (λ (u : Unit {0}). u) _ _ (g.Self.Index.removed (g.P.Pager.size c.args.pager.now) (g.Self.Index.root c.args.self.now) c.args.entry.now) c.in_err-remove_in.field-0.0 c.in_err-remove_in.ensures.only_drafts.narrows
    (λ base shown told. rw (c.new-draft.ensures, c.size.ensures) at (c.in_err-remove_in.ensures.removed base shown told)))

pub returns-in_err-write-clause-removed : goal.returns-in_err-write-clause-removed
returns-in_err-write-clause-removed g c =
    let p = err_from_is_err_and c.from_residual-in_err-write.result c.from_residual-in_err-write.ensures.1 in
    rw (p.1, p.2)
    (makes-part (λ (u : Unit {0}). u) _ _ _ c.remove_in.new.draft.list (g.Self.Index.removed (g.P.Pager.size c.args.pager.now) (g.Self.Index.root c.args.self.now) c.args.entry.now) tt c.in_ok-remove_in.ensures.only_drafts.narrows
    (λ base shown told. rw (c.new-draft.ensures, c.size.ensures) at (c.in_ok-remove_in.ensures.removed base shown told))
    c.in_err-write.field-0.0 c.in_err-write.ensures.writes)

pub returns-clause-removed : goal.returns-clause-removed
returns-clause-removed g c =
    makes-all (λ (u : Unit {0}). u) _ _ _ c.remove_in.new.draft.list (g.Self.Index.removed (g.P.Pager.size c.args.pager.now) (g.Self.Index.root c.args.self.now) c.args.entry.now) tt c.in_ok-remove_in.ensures.only_drafts.narrows
    (λ base shown told. rw (c.new-draft.ensures, c.size.ensures) at (c.in_ok-remove_in.ensures.removed base shown told))
    c.in_ok-write.ensures.writes
