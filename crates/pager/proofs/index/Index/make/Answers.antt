use Rattle.std.proofs.lemmas.Result.{err_from_is_err_and}
use Rattle.pager.proofs.Makings.{makes-all, makes-none, makes-part}
use Rattle.pager.proofs.index.Index.make.Goals as goal

pub returns-in_err-index-clause-made : goal.returns-in_err-index-clause-made
returns-in_err-index-clause-made g c =
    let p = err_from_is_err_and c.from_residual.result c.from_residual.ensures.1 in
    rw (p.1, p.2)
    (makes-none g.Self.Index.root _ _ (g.Self.Index.made (g.P.Pager.size c.args.pager.now)) c.in_err-index.field-0.0 c.in_err-index.ensures.only_drafts.narrows
    (λ base shown told. rw (c.new-draft.ensures, c.size.ensures) at (c.in_err-index.ensures.made base shown told)))

pub returns-in_err-write-clause-made : goal.returns-in_err-write-clause-made
returns-in_err-write-clause-made g c =
    let p = err_from_is_err_and c.from_residual-in_err-write.result c.from_residual-in_err-write.ensures.1 in
    rw (p.1, p.2)
    (makes-part g.Self.Index.root _ _ _ c.make_in.new.draft.list (g.Self.Index.made (g.P.Pager.size c.args.pager.now)) c.in_ok-index.index c.in_ok-index.ensures.only_drafts.narrows
    (λ base shown told. rw (c.new-draft.ensures, c.size.ensures) at (c.in_ok-index.ensures.made base shown told))
    c.in_err-write.field-0.0 c.in_err-write.ensures.writes)

pub returns-clause-made : goal.returns-clause-made
returns-clause-made g c =
    makes-all g.Self.Index.root _ _ _ c.make_in.new.draft.list (g.Self.Index.made (g.P.Pager.size c.args.pager.now)) c.in_ok-index.index c.in_ok-index.ensures.only_drafts.narrows
    (λ base shown told. rw (c.new-draft.ensures, c.size.ensures) at (c.in_ok-index.ensures.made base shown told))
    c.in_ok-write.ensures.writes
