use Rattle.std.proofs.lemmas.Result.{err_from_is_err_and}
use Rattle.pager.proofs.Makings.{makes-all, makes-none, makes-part}
use Rattle.pager.proofs.index.Index.add.Goals as goal

pub returns-in_err-add_in-clause-added : goal.returns-in_err-add_in-clause-added
returns-in_err-add_in-clause-added g c =
    let p = err_from_is_err_and c.from_residual.result c.from_residual.ensures.1 in
    rw (p.1, p.2)
    (makes-none (λ (u : Unit {0}). u) _ _ (g.Self.Index.added (g.P.Pager.size c.args.pager.now) (g.Self.Index.root c.args.self.now) c.args.entry.now) c.in_err-add_in.field-0.0 c.in_err-add_in.ensures.only_drafts.narrows
    (λ base shown told. rw (c.new-draft.ensures, c.size.ensures) at (c.in_err-add_in.ensures.added base shown told)))

pub returns-in_err-write-clause-added : goal.returns-in_err-write-clause-added
returns-in_err-write-clause-added g c =
    let p = err_from_is_err_and c.from_residual-in_err-write.result c.from_residual-in_err-write.ensures.1 in
    rw (p.1, p.2)
    (makes-part (λ (u : Unit {0}). u) _ _ _ c.add_in.new.draft.list (g.Self.Index.added (g.P.Pager.size c.args.pager.now) (g.Self.Index.root c.args.self.now) c.args.entry.now) tt c.in_ok-add_in.ensures.only_drafts.narrows
    (λ base shown told. rw (c.new-draft.ensures, c.size.ensures) at (c.in_ok-add_in.ensures.added base shown told))
    c.in_err-write.field-0.0 c.in_err-write.ensures.writes)

pub returns-clause-added : goal.returns-clause-added
returns-clause-added g c =
    makes-all (λ (u : Unit {0}). u) _ _ _ c.add_in.new.draft.list (g.Self.Index.added (g.P.Pager.size c.args.pager.now) (g.Self.Index.root c.args.self.now) c.args.entry.now) tt c.in_ok-add_in.ensures.only_drafts.narrows
    (λ base shown told. rw (c.new-draft.ensures, c.size.ensures) at (c.in_ok-add_in.ensures.added base shown told))
    c.in_ok-write.ensures.writes
