use Rattle.std.proofs.Common.{refl}
use Rattle.seat_pager.proofs.Looks.{looking, past_goes, past_refused_goes, past_told, pins_fact}
use Rattle.seat_pager.proofs.Refusals.{caused}
use Rattle.seat_pager.proofs.past.PastPagerPager.read.Goals as goal

pub past-requires : goal.past-requires
past-requires g c = record {
  looking_now = c.args.self.now.looking_now;
  pinned = pins_fact (g.S.Seat.view c.args.self.now.seat) c.args.self.now.snapshot c.args.self.now.pinned;
  in_store = c.requires;
}

pub returns-in-Ok-clause-told : goal.returns-in-Ok-clause-told
returns-in-Ok-clause-told g c base shown tells =
    let l = looking _ c.args.self.now.looking_now in
    past_told (g.S.Seat.is_honest c.past.new.self) c.args.self.now.snapshot c.args.page c.past.new.out (g.S.Seat.view c.args.self.now.seat) (g.S.Seat.view c.past.new.self) l.0 c.in-Ok.field-0 l.1 (c.in-Ok.ensures.gives l.0 l.1) tells.0 shown tells.1

pub returns-in-Ok-clause-goes : goal.returns-in-Ok-clause-goes
returns-in-Ok-clause-goes g c =
    let l = looking _ c.args.self.now.looking_now in (
      c.in-Ok.ensures.goes,
      refl,
      past_goes (g.S.Seat.is_honest c.past.new.self) c.args.self.now.snapshot c.args.page c.past.new.out (g.S.Seat.view c.args.self.now.seat) (g.S.Seat.view c.past.new.self) c.args.self.now.refused.last l.0 c.in-Ok.field-0 l.1 (c.in-Ok.ensures.gives l.0 l.1),
    )

pub returns-in-Err-clause-goes : goal.returns-in-Err-clause-goes
returns-in-Err-clause-goes g c =
    let l = looking _ c.args.self.now.looking_now in (
      c.in-Err.ensures.goes,
      refl,
      rw c.with-self.ensures.more
          (past_refused_goes (g.S.Seat.is_honest c.past.new.self) c.args.self.now.snapshot c.args.page c.past.new.out (g.S.Seat.view c.args.self.now.seat) (g.S.Seat.view c.past.new.self) c.args.self.now.refused.last l.0 c.in-Err.why l.1 (c.in-Err.ensures.gives l.0 l.1)),
    )

pub returns-in-Err-clause-cause : goal.returns-in-Err-clause-cause
returns-in-Err-clause-cause g c = caused c.args.self.now.refused c.with-self.result _ c.with-self.ensures.later c.with-self.ensures.more
