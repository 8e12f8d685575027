use Rattle.std.proofs.Common.{◌∙◌, None, Ok, refl, subst, sym}
use Rattle.session.specs.Calls.{AreRising}
use Rattle.session.proofs.Called.{RepliesOver, call_refused_settles, called_settles, look_of}
use Rattle.session.proofs.Ends.{ended_left}
use Rattle.session.proofs.Leaving.{leaves_table, none_left}
use Rattle.session.proofs.Lists.{is_now_listing}
use Rattle.session.proofs.calling.call.Goals as goal

pub call_up-requires-clause-rising : goal.call_up-requires-clause-rising
call_up-requires-clause-rising g c = subst AreRising (sym c.as_slice.ensures) c.in-Ok.ensures.gives.4

pub returns-in-Ok-clause-settles : goal.returns-in-Ok-clause-settles
returns-in-Ok-clause-settles g c = λ honest.
    called_settles c.args.names.now c.args.who c.args.call.now (g.S.Seat.is_honest c.look_all.new.self) c.in-Ok.marks (g.S.Seat.view c.args.seat) (g.S.Seat.view c.look_all.new.self) (g.S.Seat.view c.call_up.result.0)
    c.call_up.result.1 c.call_up.result.2 c.in-Ok.ensures.gives ((g.S.Seat.honest_stays c.args.seat c.look_all.new.self c.in-Ok.ensures.goes).0 honest) c.call_up.ensures.ends

pub returns-in-Ok-clause-leaves : goal.returns-in-Ok-clause-leaves
returns-in-Ok-clause-leaves g c = λ honest.
    leaves_table c.args.names.now c.args.who c.args.call.now (g.S.Seat.is_honest c.look_all.new.self) c.in-Ok.marks (g.S.Seat.view c.args.seat) (g.S.Seat.view c.look_all.new.self) (g.S.Seat.view c.call_up.result.0)
    c.call_up.result.1 c.call_up.result.2 c.in-Ok.ensures.gives ((g.S.Seat.honest_stays c.args.seat c.look_all.new.self c.in-Ok.ensures.goes).0 honest) c.call_up.ensures.ends

pub returns-in-Ok-clause-idle : goal.returns-in-Ok-clause-idle
returns-in-Ok-clause-idle g c =
    let honest = g.S.Seat.is_honest c.look_all.new.self in
    let now = g.S.Seat.view c.look_all.new.self in
    let new = g.S.Seat.view c.call_up.result.0 in
    (ended_left c.args.names.now (RepliesOver c.args.call.now honest now) now new c.call_up.result.1 (is_now_listing c.args.who c.in-Ok.marks (g.S.Seat.view c.args.seat) now c.in-Ok.ensures.gives)
    (look_of c.args.names.now c.args.call.now honest now new c.call_up.result.1 c.call_up.result.2 c.call_up.ensures.ends)).0

pub returns-in-Ok-clause-session : goal.returns-in-Ok-clause-session
returns-in-Ok-clause-session g c =
    let honest = g.S.Seat.is_honest c.look_all.new.self in
    let now = g.S.Seat.view c.look_all.new.self in
    let new = g.S.Seat.view c.call_up.result.0 in
    (ended_left c.args.names.now (RepliesOver c.args.call.now honest now) now new c.call_up.result.1 (is_now_listing c.args.who c.in-Ok.marks (g.S.Seat.view c.args.seat) now c.in-Ok.ensures.gives)
    (look_of c.args.names.now c.args.call.now honest now new c.call_up.result.1 c.call_up.result.2 c.call_up.ensures.ends)).1
    ∙ c.in-Ok.ensures.gives.1.moves.session

pub returns-in-Ok-clause-goes : goal.returns-in-Ok-clause-goes
returns-in-Ok-clause-goes g c = g.S.Seat.goes_on _ _ _ c.in-Ok.ensures.goes c.call_up.ensures.goes

pub returns-in-Err-clause-settles : goal.returns-in-Err-clause-settles
returns-in-Err-clause-settles g c = λ honest.
    call_refused_settles c.args.names.now c.args.who c.args.call.now c.in-Err.field-0 (g.S.Seat.view c.args.seat) (g.S.Seat.view c.look_all.new.self) (Ok None) c.in-Err.ensures.gives refl

pub returns-in-Err-clause-leaves : goal.returns-in-Err-clause-leaves
returns-in-Err-clause-leaves g c = λ honest.
    none_left c.args.names.now c.args.who c.args.call.now c.in-Err.field-0 (g.S.Seat.view c.args.seat) (g.S.Seat.view c.look_all.new.self) c.in-Err.ensures.gives
