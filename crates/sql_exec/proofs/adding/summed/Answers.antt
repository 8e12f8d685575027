use Rattle.std.proofs.Common.{◌≡◌, ◌∙◌, ◌∷◌, [], Bool, List, Option, Some, None, true, Ok, Err, refl, subst, sym, ap}
use Rattle.std.proofs.lemmas.Result.{err_from_is_err_and}
use Rattle.heap_file.proofs.Ways.{allowed_stop}
use Rattle.heap_file.specs.Chain.{rows_of}
use Rattle.sql_exec.specs.Adding.{added_or_not}
use Rattle.sql_exec.specs.Ranges.{plan_of}
use Rattle.sql_exec.specs.declared.adding.Adding.{Adding}
use Rattle.sql_exec.proofs.Answering.{handed}
use Rattle.sql_exec.proofs.Summing.{alone-of, none-of, none-yet, not-summed, stops-of, summed-not, summed-one}
use Rattle.sql_exec.proofs.adding.summed.Goals as goal

pub returns-in_err-added-clause-answered : goal.returns-in_err-added-clause-answered
returns-in_err-added-clause-answered g c = λ base shown told.
    let p = err_from_is_err_and c.from_residual-in_err-added.result c.from_residual-in_err-added.ensures.1 in
    let start : Adding = record { alloc = c.args.alloc; totals = c.in-Some-2.totals; last = None; useful = true } in
    let named = c.in-Some.ensures in
    let are = rw c.in-Some-2.is at c.in_ok-totals.ensures.totals in
    let unplanned = none-of (plan_of c.in_ok-schema.schema c.in-Some.table.now.indexes c.args.query.now.condition) (sym c.in_ok-has_plan.ensures ∙ c.if-branch.false) in
    rw (p.1, p.2)
    (allowed_stop c.in_err-added.field-0.0
    (λ why h. summed-not (g.P.Pager.size c.args.pager.now) c.args.catalog.now c.args.query.now c.args.snapshot shown c.in-Some.table.now named (rw c.in_ok-schema.ensures at unplanned) (alone-of c.args.query.now are.one_group) why h)
    (c.in_err-added.ensures.shown start (none-yet start refl) base shown told))

pub returns-in_err-answer-clause-answered : goal.returns-in_err-answer-clause-answered
returns-in_err-answer-clause-answered g c = λ base shown told.
    let p = err_from_is_err_and c.from_residual-in_err-answer.result c.from_residual-in_err-answer.ensures.1 in
    let start : Adding = record { alloc = c.args.alloc; totals = c.in-Some-2.totals; last = None; useful = true } in
    let named = c.in-Some.ensures in
    let are = rw c.in-Some-2.is at c.in_ok-totals.ensures.totals in
    let unplanned = none-of (plan_of c.in_ok-schema.schema c.in-Some.table.now.indexes c.args.query.now.condition) (sym c.in_ok-has_plan.ensures ∙ c.if-branch.false) in
    let h = c.in_ok-added.ensures.shown start (none-yet start refl) base shown told in
    let on = subst (λ (b : Bool). added_or_not b start (rows_of h.0) c.in_ok-added.added) c.if-not-added.false h.2.1 in
    let totals = on.totals c.args.query.now _ c.args.snapshot are in
    rw (p.1, p.2)
    (handed (λ is. summed-one (g.P.Pager.size c.args.pager.now) c.args.catalog.now c.args.query.now c.args.snapshot shown c.in-Some.table.now named (rw c.in_ok-schema.ensures at unplanned) (alone-of c.args.query.now are.one_group) h.0 h.1 h.2.0 on.rising (Err c.in_err-answer.field-0.0) (rw (c.in_ok-columns.ensures, c.of_one-scope.ensures, c.in_ok-schema.ensures) at is))
    (c.in_err-answer.ensures c.args.snapshot _ totals))

pub returns-then-not-added-clause-answered : goal.returns-then-not-added-clause-answered
returns-then-not-added-clause-answered g c = λ base shown told.
    let start : Adding = record { alloc = c.args.alloc; totals = c.in-Some-2.totals; last = None; useful = true } in
    let are = rw c.in-Some-2.is at c.in_ok-totals.ensures.totals in
    let h = c.in_ok-added.ensures.shown start (none-yet start refl) base shown told in
    let stops = subst (λ (b : Bool). added_or_not b start (rows_of h.0) c.in_ok-added.added) c.if-not-added.true h.2.1 in
    let of_select = stops-of c.in-Some-2.totals (rows_of h.0) c.args.query.now _ c.args.snapshot are stops in
    not-summed (g.P.Pager.size c.args.pager.now) c.args.catalog.now c.args.query.now c.args.snapshot shown c.in-Some.table.now c.in-Some.ensures
    (h.0, h.1, rw (c.of_one-scope.ensures, c.in_ok-schema.ensures) at of_select)

pub returns-clause-answered : goal.returns-clause-answered
returns-clause-answered g c = λ base shown told.
    let start : Adding = record { alloc = c.args.alloc; totals = c.in-Some-2.totals; last = None; useful = true } in
    let named = c.in-Some.ensures in
    let are = rw c.in-Some-2.is at c.in_ok-totals.ensures.totals in
    let unplanned = none-of (plan_of c.in_ok-schema.schema c.in-Some.table.now.indexes c.args.query.now.condition) (sym c.in_ok-has_plan.ensures ∙ c.if-branch.false) in
    let h = c.in_ok-added.ensures.shown start (none-yet start refl) base shown told in
    let on = subst (λ (b : Bool). added_or_not b start (rows_of h.0) c.in_ok-added.added) c.if-not-added.false h.2.1 in
    let totals = on.totals c.args.query.now _ c.args.snapshot are in
    summed-one (g.P.Pager.size c.args.pager.now) c.args.catalog.now c.args.query.now c.args.snapshot shown c.in-Some.table.now named (rw c.in_ok-schema.ensures at unplanned) (alone-of c.args.query.now are.one_group) h.0 h.1 h.2.0 on.rising (Ok c.in_ok-answer.field-0)
    (rw (c.in_ok-columns.ensures, c.of_one-scope.ensures, c.in_ok-schema.ensures) at (c.in_ok-answer.ensures c.args.snapshot _ totals))
