use Rattle.std.proofs.Common.{ap, subst}
use Rattle.journal_law.specs.Seats.{CommitGives}
use Rattle.seat_pager.proofs.Shown.{opened}
use Rattle.session.proofs.Attempted.{commit_done, commit_not_done, refused_ended}
use Rattle.session.proofs.attempt.commit.Goals as goal

pub returns-in-Ok-clause-ends : goal.returns-in-Ok-clause-ends
returns-in-Ok-clause-ends g c size items h =
    commit_done size items c.args.who c.args.names.now c.args.t.now (g.S.Seat.view c.args.seat.now) c.args.text.items h (g.S.Seat.view c.commit_as-done.new.seat) c.args.label.now c.in-Ok.number c.committed.result c.requires.end
    (λ a is. subst (CommitGives c.args.label.now (g.S.Seat.view c.args.seat.now) (g.S.Seat.view c.commit_as-done.new.seat) a) c.in-Ok.is (c.commit_as-done.ensures.gives a is)) c.committed.ensures

pub returns-in-Err-clause-ended : goal.returns-in-Err-clause-ended
returns-in-Err-clause-ended g c =
    let a = opened (g.S.Seat.view c.args.seat.now).work c.requires.open_now in
    refused_ended c.in-Err.why c.args.label.now (g.S.Seat.view c.args.seat.now) (g.S.Seat.view c.commit_as-done.new.seat) (g.S.Seat.view c.not_committed.new.seat) a.0 (c.requires.keeps_none a.0 a.1) (c.in-Err.ensures.gives a.0 a.1)
    (λ is. ap g.S.Seat.view (c.not_committed.ensures.fault is)) c.not_committed.ensures.gives

pub returns-in-Err-clause-goes : goal.returns-in-Err-clause-goes
returns-in-Err-clause-goes g c = g.S.Seat.goes_on _ _ _ c.in-Err.ensures.goes c.not_committed.ensures.goes

pub returns-in-Err-clause-ends : goal.returns-in-Err-clause-ends
returns-in-Err-clause-ends g c size items h =
    commit_not_done size items c.args.who c.args.names.now c.args.t.now (g.S.Seat.view c.args.seat.now) c.args.text.items h (g.S.Seat.view c.commit_as-done.new.seat) c.args.label.now (g.S.Seat.view c.not_committed.new.seat) c.in-Err.why
    c.not_committed.result c.requires.end c.in-Err.ensures.gives (λ is. ap g.S.Seat.view (c.not_committed.ensures.fault is)) c.not_committed.ensures.gives c.not_committed.ensures.told
