use Rattle.std.proofs.Common.{◌<◌, length, arith, refl, ◌∙◌}
use Rattle.retro.specs.Slots.{view_at}
use Rattle.retro.proofs.Seated.{come_none, come_on, each_all, each_first, each_next, together_on}
use Rattle.retro.proofs.phases.meet_each.Goals as goal

pub meet_first-requires-clause-together : goal.meet_first-requires-clause-together
meet_first-requires-clause-together g c =
    together_on g.row.S.Denot g.S.Seat.view g.S.Seat.goes g.S.Seat.stays g.S.Seat.goes_on g.S.Meets.together g.met.S.Meets.one_goes g.met.S.Meets.other_goes c.args.slots.now c.loop-number.slots c.requires.seated
    c.loop-number.invariant.come c.requires.together

pub loop-number-init : goal.loop-number-init
loop-number-init g c = record {
  come = come_none g.row.S.Denot g.S.Seat.view g.S.Seat.goes g.S.Seat.stays g.S.Seat.goes_on c.args.slots.now c.requires.seated;
  met = each_first (view_at g.S.Seat.view c.args.slots.now) (length c.args.slots.now);
  rest = λ n behind. refl;
}

pub loop-number-preserved : goal.loop-number-preserved
loop-number-preserved g c =
    let before = c.loop-number.invariant in
    let pair = c.meet_first.ensures.met in
    let number = c.loop-number.number in
    let within : number < length c.args.slots.now = omega (arith, c.loop-number-test.true, before.come.count) in
    record {
      come = come_on g.row.S.Denot g.S.Seat.view g.S.Seat.goes g.S.Seat.stays g.S.Seat.goes_on c.args.slots.now c.loop-number.slots c.meet_first.new.slots before.come c.meet_first.ensures.come;
      met = each_next (view_at g.S.Seat.view c.args.slots.now) (view_at g.S.Seat.view c.loop-number.slots) (view_at g.S.Seat.view c.meet_first.new.slots) (length c.args.slots.now) number
          (omega (arith, c.loop-number.auto.number)) before.met (before.rest number (omega arith)) pair within;
      rest = λ n behind. pair.others n (λ e. omega (arith, e, behind)) (λ e. omega (arith, e, behind)) ∙ before.rest n (omega (arith, behind));
    }

pub returns : goal.returns
returns g c = record {
  come = c.loop-number.invariant.come;
  met = each_all (view_at g.S.Seat.view c.args.slots.now) (view_at g.S.Seat.view c.loop-number.slots) (length c.args.slots.now) c.loop-number.number (omega (arith, c.loop-number-test.false)) c.loop-number.invariant.met;
}
