use Rattle.session.proofs.Ends.{ends_ok, ends_err}
use Rattle.session.proofs.ending.finish.Goals as goal

pub returns-in-Ok-clause-ends : goal.returns-in-Ok-clause-ends
returns-in-Ok-clause-ends g c = λ look is. ends_ok (g.S.Seat.view c.args.seat) (g.S.Seat.view c.unlook.new.self) look c.args.text c.in-Ok.text c.in-Ok.is (c.unlook.ensures.gives look is)

pub returns-in-Err-clause-ends : goal.returns-in-Err-clause-ends
returns-in-Err-clause-ends g c = λ look is.
    ends_err (g.S.Seat.view c.args.seat) (g.S.Seat.view c.unlook-in-Err.new.self) look c.args.text c.in-Err.why c.ending_by.result c.in-Err.is c.ending_by.ensures (c.unlook-in-Err.ensures.gives look is)
