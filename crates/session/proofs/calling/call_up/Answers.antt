use Rattle.std.proofs.Common.{◌∙◌}
use Rattle.session.proofs.calling.call_up.Goals as goal

pub returns-clause-ends : goal.returns-clause-ends
returns-clause-ends g c = record {
  between = g.S.Seat.view c.call_over-seat.result.0;
  moves = c.call_over-seat.ensures.moves;
  work = c.call_over-seat.ensures.work;
  answer = c.call_over-seat.result.1;
  concludes = c.call_over-seat.ensures.concludes;
  text = c.result_of-text.result.0;
  gives = c.result_of-text.ensures;
  ends = λ look is. c.finish-seat.ensures.ends look (c.call_over-seat.ensures.work ∙ is);
  tells = c.finish-seat.ensures.tells;
}

pub returns-clause-goes : goal.returns-clause-goes
returns-clause-goes g c = g.S.Seat.goes_on _ _ _ c.call_over-seat.ensures.goes c.finish-seat.ensures.goes
