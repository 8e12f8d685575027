use Rattle.std.proofs.Common.{◌∙◌}
use Rattle.std.proofs.lemmas.Result.{err_from_is_err_and}
use Rattle.heap_file.proofs.Ways.{allowed_stop}
use Rattle.sql_exec.proofs.Answering.{answered-not, answered-one, answered-two, answered-unread, handed}
use Rattle.sql_exec.proofs.asking.answer_of_rows.Goals as goal

pub returns-in_err-first-clause-answered : goal.returns-in_err-first-clause-answered
returns-in_err-first-clause-answered g c = λ base shown told.
    let p = err_from_is_err_and c.from_residual.result c.from_residual.ensures.1 in
    rw (p.1, p.2)
    (allowed_stop c.in_err-first.field-0.0
    (λ why h. answered-not (g.P.Pager.size c.args.pager.now) c.args.catalog.now c.args.query.now c.args.snapshot shown why (rw c.where_alone-condition.ensures at h))
    (c.in_err-first.ensures.source base shown told))

pub returns-in_err-over_one-in-None-clause-answered : goal.returns-in_err-over_one-in-None-clause-answered
returns-in_err-over_one-in-None-clause-answered g c = λ base shown told.
    let p = err_from_is_err_and c.from_residual-in_err-over_one-in-None.result c.from_residual-in_err-over_one-in-None.ensures.1 in
    rw (p.1, p.2)
    (handed (λ h. answered-one (g.P.Pager.size c.args.pager.now) c.args.catalog.now c.args.query.now c.args.snapshot shown c.in_ok-first.first c.in-None.is (rw c.where_alone-condition.ensures at (c.in_ok-first.ensures.source base shown told)) _ h)
    c.in_err-over_one-in-None.ensures)

pub returns-in-None-clause-answered : goal.returns-in-None-clause-answered
returns-in-None-clause-answered g c = λ base shown told.
    answered-one (g.P.Pager.size c.args.pager.now) c.args.catalog.now c.args.query.now c.args.snapshot shown c.in_ok-first.first c.in-None.is (rw c.where_alone-condition.ensures at (c.in_ok-first.ensures.source base shown told)) _ c.in_ok-over_one-in-None.ensures

pub returns-in_err-second-in-Some-clause-answered : goal.returns-in_err-second-in-Some-clause-answered
returns-in_err-second-in-Some-clause-answered g c = λ base shown told.
    let p = err_from_is_err_and c.from_residual-in_err-second-in-Some.result c.from_residual-in_err-second-in-Some.ensures.1 in
    let reads = c.in_err-second-in-Some.ensures.reads in
    rw (p.1, p.2)
    (allowed_stop c.in_err-second-in-Some.field-0.0
    (λ why h. answered-unread (g.P.Pager.size c.args.pager.now) c.args.catalog.now c.args.query.now c.args.snapshot shown (g.P.Pager.size c.read_table.new.pager) c.in_ok-first.first c.in-Some.name c.in-Some.is c.in_ok-first.ensures.reads.size_stays (rw c.where_alone-condition.ensures at (c.in_ok-first.ensures.source base shown (reads.narrows base shown told))) why h)
    (c.in_err-second-in-Some.ensures.source base shown told))

pub returns-in_err-over_two-in-Some-clause-answered : goal.returns-in_err-over_two-in-Some-clause-answered
returns-in_err-over_two-in-Some-clause-answered g c = λ base shown told.
    let p = err_from_is_err_and c.from_residual-in_err-over_two-in-Some.result c.from_residual-in_err-over_two-in-Some.ensures.1 in
    let reads = c.in_ok-second-in-Some.ensures.reads in
    rw (p.1, p.2)
    (handed (λ h. answered-two (g.P.Pager.size c.args.pager.now) c.args.catalog.now c.args.query.now c.args.snapshot shown (g.P.Pager.size c.read_table.new.pager) c.in_ok-first.first c.in-Some.name c.in-Some.is c.in_ok-first.ensures.reads.size_stays (rw c.where_alone-condition.ensures at (c.in_ok-first.ensures.source base shown (reads.narrows base shown told))) c.in_ok-second-in-Some.second (c.in_ok-second-in-Some.ensures.source base shown told) _ h)
    c.in_err-over_two-in-Some.ensures)

pub returns-in_err-over_two-in-Some-clause-reads : goal.returns-in_err-over_two-in-Some-clause-reads
returns-in_err-over_two-in-Some-clause-reads g c =
    let p = err_from_is_err_and c.from_residual-in_err-over_two-in-Some.result c.from_residual-in_err-over_two-in-Some.ensures.1 in
    let one = c.in_ok-first.ensures.reads in
    let two = c.in_ok-second-in-Some.ensures.reads in
    record {
      narrows = λ base shown told. one.narrows base shown (two.narrows base shown told);
      goes_on = g.met.P.Pager.goes_on _ _ _ one.goes_on two.goes_on;
      size_stays = two.size_stays ∙ one.size_stays;
      cause = rw (p.1, p.2) (two.cause ∙ one.cause);
    }

pub returns-clause-answered : goal.returns-clause-answered
returns-clause-answered g c = λ base shown told.
    answered-two (g.P.Pager.size c.args.pager.now) c.args.catalog.now c.args.query.now c.args.snapshot shown (g.P.Pager.size c.read_table.new.pager) c.in_ok-first.first c.in-Some.name c.in-Some.is c.in_ok-first.ensures.reads.size_stays (rw c.where_alone-condition.ensures at (c.in_ok-first.ensures.source base shown (c.in_ok-second-in-Some.ensures.reads.narrows base shown told))) c.in_ok-second-in-Some.second (c.in_ok-second-in-Some.ensures.source base shown told) _ c.in_ok-over_two-in-Some.ensures
