use Rattle.std.proofs.Common.{inl, inr, ◌∙◌, sym, map}
use Rattle.std.proofs.lemmas.Result.{err_from_is_err_and}
use Rattle.sql_select.specs.Bound.{keeps}
use Rattle.sql_select.proofs.Eaches.{pairs_more, pairs_refused}
use Rattle.sql_select.proofs.joining.keep_of_two.Goals as goal

pub returns-in_err-keep_pairs : goal.returns-in_err-keep_pairs
returns-in_err-keep_pairs g c =
    let p = err_from_is_err_and c.from_residual.result c.from_residual.ensures.1 in
    let holds = keeps c.args.filter.now in
    rw (p.1, p.2)
    (elim c.in_err-keep_pairs.ensures [
      | inl memory ↦ inl memory
      | inr refused ↦ inr (sym c.loop-first.invariant ∙ pairs_refused holds g.R.HasRow.row_of (map g.R.HasRow.row_of c.args.seconds.now) c.args.firsts.now c.loop-first.first-index c.first-item.result c.row-first.result.now c.loop-first.found.items c.in_err-keep_pairs.field-0.0 c.loop-first-test.true c.first-item.is c.row-first.ensures refused)
    ])

pub loop-first-preserved : goal.loop-first-preserved
loop-first-preserved g c =
    let holds = keeps c.args.filter.now in
    sym (pairs_more holds g.R.HasRow.row_of (map g.R.HasRow.row_of c.args.seconds.now) c.args.firsts.now c.loop-first.first-index c.first-item.result c.row-first.result.now c.loop-first.found.items c.keep_pairs.new.found.items c.loop-first-test.true c.first-item.is c.row-first.ensures c.in_ok-keep_pairs.ensures)
    ∙ c.loop-first.invariant
