use Rattle.std.proofs.Common.{ℕ, length, subst}
use Rattle.retro.specs.Slots.{view_at}
use Rattle.retro.specs.Steps.{HasMetEach}
use Rattle.retro.proofs.Seated.{come_on, met_all, together_on}
use Rattle.retro.proofs.phases.meet_all.Goals as goal

pub meet_each-requires-2-clause-together : goal.meet_each-requires-2-clause-together
meet_each-requires-2-clause-together g c =
    together_on g.row.S.Denot g.S.Seat.view g.S.Seat.goes g.S.Seat.stays g.S.Seat.goes_on g.S.Meets.together g.met.S.Meets.one_goes g.met.S.Meets.other_goes c.args.slots.now c.meet_each.new.slots c.requires.seated
    c.meet_each.ensures.come c.requires.together

pub returns : goal.returns
returns g c = record {
  come = come_on g.row.S.Denot g.S.Seat.view g.S.Seat.goes g.S.Seat.stays g.S.Seat.goes_on c.args.slots.now c.meet_each.new.slots c.meet_each-2.new.slots c.meet_each.ensures.come c.meet_each-2.ensures.come;
  met = met_all (view_at g.S.Seat.view c.args.slots.now) (view_at g.S.Seat.view c.meet_each.new.slots) (view_at g.S.Seat.view c.meet_each-2.new.slots) (length c.args.slots.now) c.meet_each.ensures.met
      (subst (λ (n : ℕ). HasMetEach (view_at g.S.Seat.view c.meet_each.new.slots) (view_at g.S.Seat.view c.meet_each-2.new.slots) n n) c.meet_each.ensures.come.count c.meet_each-2.ensures.met);
}
