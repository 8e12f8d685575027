use Rattle.std.proofs.Common.{◌≢◌, refl, sym, ◌∙◌, arith}
use Rattle.retro.proofs.Seated.{come_two}
use Rattle.retro.proofs.phases.meet_first.Goals as goal

pub take-other-requires-clause-there : goal.take-other-requires-clause-there
take-other-requires-clause-there g c =
    let there = c.requires.seated c.args.number c.requires.bound.1 in
    rw (c.take-first.ensures.others c.args.number (λ e. omega (arith, e, c.requires.bound.0)), there.sits) refl

pub returns : goal.returns
returns g c =
    let apart : c.args.number ≢ 0 = λ e. omega (arith, e, c.requires.bound.0) in
    let zeroth : 0 ≢ c.args.number = λ e. omega (arith, e, c.requires.bound.0) in
    let there = come_two g.row.S.Denot g.S.Seat.view g.S.Seat.goes g.S.Seat.stays g.S.Seat.goes_on c.args.slots.now c.put-2.new.slots c.args.number c.take-first.result c.take-other.result c.meet.new.self c.meet.new.other
    c.requires.bound.0 c.requires.seated c.take-first.ensures.seat (sym (c.take-first.ensures.others c.args.number apart) ∙ c.take-other.ensures.seat)
    (c.put-2.ensures.count ∙ c.put.ensures.count ∙ c.take-other.ensures.count ∙ c.take-first.ensures.count) c.put-2.ensures.sits (c.put-2.ensures.others c.args.number apart ∙ c.put.ensures.sits)
    (λ n none other. c.put-2.ensures.others n none ∙ c.put.ensures.others n other ∙ c.take-other.ensures.others n other ∙ c.take-first.ensures.others n none)
    c.meet.ensures.met c.meet.ensures.goes.0 c.meet.ensures.goes.1 in
    record { come = there.0; met = there.1 }
