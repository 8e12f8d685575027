use Rattle.std.proofs.Common.{◌∙◌, ap, subst, sym}
use Rattle.session.proofs.AsOf.{asked_past}
use Rattle.session.proofs.looking.ask_past.Goals as goal

pub returns-clause-concludes : goal.returns-clause-concludes
returns-clause-concludes g c =
    let p = c.new-pager.result in
    let q = c.ask-answer.new.pager in
    let goes = c.ask-answer.ensures.reads.goes_on in
    rw c.into_seat.ensures
    (asked_past c.args.query.now c.args.snapshot q.snapshot (g.S.Seat.is_honest c.args.seat) (g.S.Seat.is_honest q.seat) (g.S.Seat.view c.args.seat) (g.S.Seat.view p.seat) (g.S.Seat.view q.seat) p.refused.last q.refused.last
    c.refused.result c.ask-answer.result c.concluded-text.result
    (λ h. (g.S.Seat.honest_stays p.seat q.seat goes.0).0 (subst g.S.Seat.is_honest (sym c.new-pager.ensures.seat) h))
    (ap g.S.Seat.view c.new-pager.ensures.seat) (goes.1 ∙ c.new-pager.ensures.snapshot) goes.2 (ap (λ r. r.last) c.new-pager.ensures.refused) c.refused.ensures.last c.ask-answer.ensures.asks.over_tables c.concluded-text.ensures)
