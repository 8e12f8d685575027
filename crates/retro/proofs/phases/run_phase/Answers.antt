use Rattle.std.proofs.Common.{ℕ, arith, length, subst}
use Rattle.retro.specs.Slots.{view_at}
use Rattle.retro.specs.Steps.{MetAll}
use Rattle.retro.proofs.Seated.{come_on, together_on}
use Rattle.retro.proofs.Stepped.{phase_ran, rest_met}
use Rattle.retro.proofs.phases.run_phase.Goals as goal

pub meet_all-requires-clause-together : goal.meet_all-requires-clause-together
meet_all-requires-clause-together g c =
    let met = g.met.S.Meets g.world.𝓛 g.world.𝓜 g.world.𝓡 ((λ s x. x), (λ x. x), (λ x. x), λ x. x) in
    together_on g.row.S.Denot g.S.Seat.view g.S.Seat.goes g.S.Seat.stays g.S.Seat.goes_on g.S.Meets.together met.one_goes met.other_goes c.args.slots.now c.run_sessions-kept.new.slots c.requires.seated
    c.run_sessions-kept.ensures.come c.requires.together

pub returns : goal.returns
returns g c =
    let ran = c.run_sessions-kept.ensures in
    record {
      come = come_on g.row.S.Denot g.S.Seat.view g.S.Seat.goes g.S.Seat.stays g.S.Seat.goes_on c.args.slots.now c.run_sessions-kept.new.slots c.meet_all.new.slots ran.come c.meet_all.ensures.come;
      may = rest_met g.S.Seat.view c.run_sessions-kept.new.slots c.meet_all.new.slots c.meet_all.ensures.come.count c.meet_all.ensures.met ran.may;
      ran = λ honest plan is opened.
          phase_ran plan opened (length c.args.slots.now) c.args.phase c.args.sessions.now is (view_at g.S.Seat.view c.args.slots.now) (view_at g.S.Seat.view c.run_sessions-kept.new.slots) (view_at g.S.Seat.view c.meet_all.new.slots)
          c.run_sessions-kept.result (let few = c.requires.fit.0 in let all = c.requires.count in omega (arith, few, all)) (ran.ran honest plan is)
          (subst (λ (n : ℕ). MetAll n (view_at g.S.Seat.view c.run_sessions-kept.new.slots) (view_at g.S.Seat.view c.meet_all.new.slots)) ran.come.count c.meet_all.ensures.met);
    }
