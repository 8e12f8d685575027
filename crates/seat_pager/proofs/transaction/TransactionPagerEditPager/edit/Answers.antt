use Rattle.std.proofs.Common.{ap}
use Rattle.journal_law.specs.Lawful.{Ground}
use Rattle.seat_pager.proofs.Reasons.{edit_goes, edit_refused_goes}
use Rattle.seat_pager.proofs.Refusals.{caused}
use Rattle.seat_pager.proofs.Shown.{edit_refused_told, edit_told, leads_where_honest, open_still, opened}
use Rattle.seat_pager.proofs.transaction.TransactionPagerEditPager.edit.Goals as goal

pub returns-in-Ok-clause-ok : goal.returns-in-Ok-clause-ok
returns-in-Ok-clause-ok g c =
    let a = opened _ c.args.self.now.open_now in
    leads_where_honest (g.S.Seat.is_honest c.args.self.now.seat) (g.S.Seat.is_honest c.edit.new.self) (g.S.Seat.honest_stays _ _ c.in-Ok.ensures.goes).1 _ _ _
    (edit_told c.args.page c.args.bytes.now (g.S.Seat.view c.args.self.now.seat) (g.S.Seat.view c.edit.new.self) c.args.self.now.asked a.0 c.in-Ok.field-0 a.1 (c.in-Ok.ensures.gives a.0 a.1))

pub returns-in-Ok-clause-goes : goal.returns-in-Ok-clause-goes
returns-in-Ok-clause-goes g c =
    let a = opened _ c.args.self.now.open_now in
    (c.in-Ok.ensures.goes, edit_goes c.args.page c.args.bytes.now _ _ _ _ a.0 c.in-Ok.field-0 a.1 (c.in-Ok.ensures.gives a.0 a.1))

pub returns-in-Err-clause-err : goal.returns-in-Err-clause-err
returns-in-Err-clause-err g c =
    let a = opened _ c.args.self.now.open_now in
    rw c.asked_behind-self.ensures
    (leads_where_honest (g.S.Seat.is_honest c.args.self.now.seat) (g.S.Seat.is_honest c.edit.new.self) (g.S.Seat.honest_stays _ _ c.in-Err.ensures.goes).1 _ _ _
    (edit_refused_told c.args.page c.args.bytes.now (g.S.Seat.view c.args.self.now.seat) (g.S.Seat.view c.edit.new.self) c.args.self.now.asked a.0 c.in-Err.why a.1 (c.in-Err.ensures.gives a.0 a.1)))

pub returns-in-Err-clause-goes : goal.returns-in-Err-clause-goes
returns-in-Err-clause-goes g c =
    let a = opened _ c.args.self.now.open_now in (
      c.in-Err.ensures.goes,
      rw (c.keeps-self.ensures, c.asked_behind-self.ensures)
          (edit_refused_goes c.args.page (g.S.Seat.view c.args.self.now.seat) (g.S.Seat.view c.edit.new.self) c.args.self.now.kept a.0 a.1 c.args.bytes.now c.args.self.now.asked c.in-Err.why (c.in-Err.ensures.gives a.0 a.1)),
    )

pub returns-in-Err-clause-cause : goal.returns-in-Err-clause-cause
returns-in-Err-clause-cause g c = caused c.args.self.now.refused c.with-self.result _ c.with-self.ensures.later c.with-self.ensures.more

pub invariant_of-self-in-Err : goal.invariant_of-self-in-Err
invariant_of-self-in-Err g c =
    let a = opened _ c.args.self.now.open_now in
    let goes = edit_refused_goes c.args.page (g.S.Seat.view c.args.self.now.seat) (g.S.Seat.view c.edit.new.self) c.args.self.now.kept a.0 a.1 c.args.bytes.now c.args.self.now.asked c.in-Err.why (c.in-Err.ensures.gives a.0 a.1) in
    record { open_now = open_still _ _ (goes.attempt a.0 a.1).is_open }

pub returns-in-Err-clause-size : goal.returns-in-Err-clause-size
returns-in-Err-clause-size g c =
    let a = opened _ c.args.self.now.open_now in
    let goes = edit_refused_goes c.args.page (g.S.Seat.view c.args.self.now.seat) (g.S.Seat.view c.edit.new.self) c.args.self.now.kept a.0 a.1 c.args.bytes.now c.args.self.now.asked c.in-Err.why (c.in-Err.ensures.gives a.0 a.1) in
    ap (λ (ground : Ground). ground.base.page_count) goes.moves.opened
