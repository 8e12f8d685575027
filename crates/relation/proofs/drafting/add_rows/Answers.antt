use Rattle.std.proofs.lemmas.Result.{err_from_is_err_and}
use Rattle.pager.specs.Draft.{drafted}
use Rattle.heap_file.proofs.Ways.{allowed_stop}
use Rattle.relation.proofs.Spots.{all-standing, none-standing}
use Rattle.relation.proofs.drafting.add_rows.Goals as goal

pub returns-in_err-spots-clause-placed : goal.returns-in_err-spots-clause-placed
returns-in_err-spots-clause-placed g c = λ base shown told.
    let p = err_from_is_err_and c.from_residual.result c.from_residual.ensures.1 in
    rw (p.1, p.2)
    (allowed_stop c.in_err-spots.field-0.0
    (λ why h. none-standing c.args.draft.now.size c.args.first c.args.rows.now (drafted shown c.args.draft.now.list) why h)
    (c.in_err-spots.ensures.placed base shown told))

pub returns-clause-placed : goal.returns-clause-placed
returns-clause-placed g c = λ base shown told.
    rw (c.in_ok-standing.ensures, c.deref.ensures.value) (all-standing c.args.draft.now.size c.args.first c.args.rows.now c.in_ok-spots.spots.items (drafted shown c.args.draft.now.list) (drafted shown c.add_all.new.draft.list) (c.in_ok-spots.ensures.placed base shown told))
