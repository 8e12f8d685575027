use Rattle.std.proofs.Common.{◌∙◌, Ok, None, refl}
use Rattle.session.specs.Singles.{AsksMarks}
use Rattle.session.proofs.Ends.{ended_left}
use Rattle.session.proofs.Lists.{is_now_listing, list_refused_settles, listed_settles, of_marks}
use Rattle.session.proofs.listing.snap_ids.Goals as goal

pub returns-in-Ok-clause-settles : goal.returns-in-Ok-clause-settles
returns-in-Ok-clause-settles g c =
    listed_settles c.args.names.now c.args.who c.args.query.now c.in-Ok.marks (g.S.Seat.view c.args.seat) (g.S.Seat.view c.look_all.new.self) (g.S.Seat.view c.list_up.result.0) c.list_up.result.1
    c.in-Ok.ensures.gives (of_marks c.args.names.now c.args.query.now c.as_slice.result.now c.in-Ok.marks (g.S.Seat.view c.look_all.new.self) (g.S.Seat.view c.list_up.result.0) c.list_up.result.1 c.as_slice.ensures c.list_up.ensures.ends)

pub returns-in-Ok-clause-idle : goal.returns-in-Ok-clause-idle
returns-in-Ok-clause-idle g c =
    (ended_left c.args.names.now (AsksMarks c.args.query.now c.as_slice.result.now) (g.S.Seat.view c.look_all.new.self) (g.S.Seat.view c.list_up.result.0) c.list_up.result.1
    (is_now_listing c.args.who c.in-Ok.marks (g.S.Seat.view c.args.seat) (g.S.Seat.view c.look_all.new.self) c.in-Ok.ensures.gives) c.list_up.ensures.ends).0

pub returns-in-Ok-clause-session : goal.returns-in-Ok-clause-session
returns-in-Ok-clause-session g c =
    (ended_left c.args.names.now (AsksMarks c.args.query.now c.as_slice.result.now) (g.S.Seat.view c.look_all.new.self) (g.S.Seat.view c.list_up.result.0) c.list_up.result.1
    (is_now_listing c.args.who c.in-Ok.marks (g.S.Seat.view c.args.seat) (g.S.Seat.view c.look_all.new.self) c.in-Ok.ensures.gives) c.list_up.ensures.ends).1
    ∙ c.in-Ok.ensures.gives.1.moves.session

pub returns-in-Ok-clause-goes : goal.returns-in-Ok-clause-goes
returns-in-Ok-clause-goes g c = g.S.Seat.goes_on _ _ _ c.in-Ok.ensures.goes c.list_up.ensures.goes

pub returns-in-Err-clause-settles : goal.returns-in-Err-clause-settles
returns-in-Err-clause-settles g c =
    list_refused_settles c.args.names.now c.args.who c.args.query.now c.in-Err.field-0 (g.S.Seat.view c.args.seat) (g.S.Seat.view c.look_all.new.self) (Ok None) c.in-Err.ensures.gives refl
