use Rattle.std.proofs.Common.{ap}
use Rattle.journal_law.specs.Lawful.{Ground}
use Rattle.seat_pager.proofs.Reasons.{read_goes, read_refused_goes}
use Rattle.seat_pager.proofs.Refusals.{caused}
use Rattle.seat_pager.proofs.Shown.{open_still, opened, read_narrows, read_refused_narrows, read_told, where_honest}
use Rattle.seat_pager.proofs.transaction.TransactionPagerPager.read.Goals as goal

pub returns-in-Ok-clause-told : goal.returns-in-Ok-clause-told
returns-in-Ok-clause-told g c base shown tells =
    let a = opened _ c.args.self.now.open_now in
    read_told (g.S.Seat.is_honest c.read.new.self) c.args.page c.read.new.out (g.S.Seat.view c.args.self.now.seat) (g.S.Seat.view c.read.new.self) c.args.self.now.asked a.0 c.in-Ok.field-0 (c.in-Ok.ensures.gives a.0 a.1)
    tells.0 base shown tells.1

pub returns-in-Ok-clause-narrows : goal.returns-in-Ok-clause-narrows
returns-in-Ok-clause-narrows g c =
    let a = opened _ c.args.self.now.open_now in
    where_honest (g.S.Seat.is_honest c.args.self.now.seat) (g.S.Seat.is_honest c.read.new.self) (g.S.Seat.honest_stays _ _ c.in-Ok.ensures.goes).1 _ _
    (read_narrows (g.S.Seat.is_honest c.read.new.self) c.args.page c.read.new.out (g.S.Seat.view c.args.self.now.seat) (g.S.Seat.view c.read.new.self) c.args.self.now.asked a.0 c.in-Ok.field-0 a.1 (c.in-Ok.ensures.gives a.0 a.1))

pub returns-in-Err-clause-narrows : goal.returns-in-Err-clause-narrows
returns-in-Err-clause-narrows g c =
    let a = opened _ c.args.self.now.open_now in
    where_honest (g.S.Seat.is_honest c.args.self.now.seat) (g.S.Seat.is_honest c.read.new.self) (g.S.Seat.honest_stays _ _ c.in-Err.ensures.goes).1 _ _
    (read_refused_narrows (g.S.Seat.is_honest c.read.new.self) c.args.page c.read.new.out (g.S.Seat.view c.args.self.now.seat) (g.S.Seat.view c.read.new.self) c.args.self.now.asked a.0 c.in-Err.why a.1 (c.in-Err.ensures.gives a.0 a.1))

pub returns-in-Ok-clause-goes : goal.returns-in-Ok-clause-goes
returns-in-Ok-clause-goes g c =
    let a = opened _ c.args.self.now.open_now in
    (c.in-Ok.ensures.goes, read_goes (g.S.Seat.is_honest c.read.new.self) c.args.page c.read.new.out _ _ _ _ a.0 c.in-Ok.field-0 a.1 (c.in-Ok.ensures.gives a.0 a.1))

pub returns-in-Err-clause-goes : goal.returns-in-Err-clause-goes
returns-in-Err-clause-goes g c =
    let a = opened _ c.args.self.now.open_now in (
      c.in-Err.ensures.goes,
      rw c.keeps-self.ensures (read_refused_goes (g.S.Seat.is_honest c.read.new.self) c.args.page c.read.new.out _ _ _ _ a.0 c.in-Err.why a.1 (c.in-Err.ensures.gives a.0 a.1)),
    )

pub returns-in-Err-clause-cause : goal.returns-in-Err-clause-cause
returns-in-Err-clause-cause g c = caused c.args.self.now.refused c.with-self.result _ c.with-self.ensures.later c.with-self.ensures.more

pub invariant_of-self-in-Err : goal.invariant_of-self-in-Err
invariant_of-self-in-Err g c =
    let a = opened _ c.args.self.now.open_now in
    let goes = read_refused_goes (g.S.Seat.is_honest c.read.new.self) c.args.page c.read.new.out (g.S.Seat.view c.args.self.now.seat) (g.S.Seat.view c.read.new.self) c.args.self.now.kept c.args.self.now.asked a.0 c.in-Err.why a.1 (c.in-Err.ensures.gives a.0 a.1) in
    record { open_now = open_still _ _ (goes.attempt a.0 a.1).is_open }

pub returns-in-Err-clause-size : goal.returns-in-Err-clause-size
returns-in-Err-clause-size g c =
    let a = opened _ c.args.self.now.open_now in
    let goes = read_refused_goes (g.S.Seat.is_honest c.read.new.self) c.args.page c.read.new.out (g.S.Seat.view c.args.self.now.seat) (g.S.Seat.view c.read.new.self) c.args.self.now.kept c.args.self.now.asked a.0 c.in-Err.why a.1 (c.in-Err.ensures.gives a.0 a.1) in
    ap (λ (ground : Ground). ground.base.page_count) goes.moves.opened
