use Rattle.std.proofs.Common.{ap, subst, sym}
use Rattle.session.proofs.Conclusions.{combine_concludes}
use Rattle.session.proofs.calling.combine_over.Goals as goal

pub returns-clause-concludes : goal.returns-clause-concludes
returns-clause-concludes g c =
    let p = c.new.result in
    let q = c.combine-answer.new.asof.pager in
    rw (c.into_seat.ensures, c.ended.ensures)
    (combine_concludes c.args.query.now c.args.combination.now c.args.numbers.now (g.S.Seat.is_honest c.args.seat) (g.S.Seat.is_honest p.seat) (g.S.Seat.view c.args.seat) (g.S.Seat.view p.seat) (g.S.Seat.view q.seat)
    p.refused.last q.refused.last c.refused-last.result c.combine-answer.result
    (λ h. subst g.S.Seat.is_honest (sym c.new.ensures.seat) h) (ap g.S.Seat.view c.new.ensures.seat) c.combine-answer.ensures.goes.1 (ap (λ r. r.last) c.new.ensures.refused) c.refused-last.ensures.last c.combine-answer.ensures.told)
