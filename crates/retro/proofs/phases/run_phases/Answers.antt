use Rattle.std.proofs.Common.{◌≡◌, ◌+◌, ◌≤◌, ◌∷◌, [], ℕ, List, Ok, Some, ap, arith, length, length-append, refl, slice_get, sym, subst, ◌∙◌}
use Rattle.std.specs.declared.alloc.AllocError.{AllocError}
use Rattle.std.proofs.lemmas.Option.{slice_get_read}
use Rattle.session.specs.Plan.{IsPhaseOf, Plan}
use Rattle.session.specs.Replies.{kept_by_place}
use Rattle.session.specs.declared.kept.Kept.{Kept}
use Rattle.session.specs.declared.plan.SessionPlan.{SessionPlan}
use Rattle.retro.specs.Phases.{HasComeTo}
use Rattle.retro.specs.Slots.{view_at}
use Rattle.retro.specs.Steps.{PhaseRuns}
use Rattle.retro.proofs.Seated.{come_none, come_on, honest_on, together_on}
use Rattle.retro.proofs.Stepped.{phase_at, phase_failed, run_begins}
use Rattle.retro.proofs.phases.run_phases.Goals as goal

pub run_phase-requires-clause-together : goal.run_phase-requires-clause-together
run_phase-requires-clause-together g c κs within =
    let met = g.met.S.Meets g.world.𝓛 g.world.𝓜 g.world.𝓡 ((λ s x. x), (λ x. x), (λ x. x), λ x. x) in
    together_on g.row.S.Denot g.S.Seat.view g.S.Seat.goes g.S.Seat.stays g.S.Seat.goes_on g.S.Meets.together met.one_goes met.other_goes c.args.slots.now c.loop-index.slots c.requires.seated
    c.loop-index.invariant.come c.requires.together

pub loop-index-init : goal.loop-index-init
loop-index-init g c = record {
  come = come_none g.row.S.Denot g.S.Seat.view g.S.Seat.goes g.S.Seat.stays g.S.Seat.goes_on c.args.slots.now c.requires.seated;
  may = c.requires.may;
  long = ap length c.new-kept.ensures;
  ran = λ honest opened front together.
      subst (λ (k : List (List (List Kept))). HasComeTo opened.base.page_count c.args.plan.now opened (length c.args.slots.now) 1 (kept_by_place k) (view_at g.S.Seat.view c.args.slots.now)) (sym c.new-kept.ensures)
      (run_begins c.args.plan.now opened (length c.args.slots.now) front (view_at g.S.Seat.view c.args.slots.now) together);
}

pub returns-in_err-one : goal.returns-in_err-one
returns-in_err-one g c =
    let before = c.loop-index.invariant in
    let plan : c.as_slice-sessions-items.result.now ≡ c.args.plan.now = c.as_slice-sessions-items.ensures in
    let read : slice_get c.as_slice-sessions-items.result.now c.loop-index.index ≡ Some c.sessions-item.result =
    slice_get_read c.as_slice-sessions-items.result.now (length c.as_slice-sessions-items.result.now) c.loop-index.index c.sessions-item.result refl c.loop-index-test.true c.sessions-item.is in
    let is : IsPhaseOf c.args.plan.now (c.loop-index.index + 1) c.as_slice.result.now =
    phase_at c.args.plan.now c.loop-index.index c.as_slice.result.now (subst (λ (p : Plan). slice_get p c.loop-index.index ≡ Some c.sessions-item.result) plan read ∙ ap (λ (s : List SessionPlan). Some s) (sym c.as_slice.ensures)) in
    let test = c.loop-index-test.true in
    let count = ap length plan in
    let few : c.loop-index.index + 1 ≤ length c.args.plan.now = omega (arith, test, count) in
    record {
      come = come_on g.row.S.Denot g.S.Seat.view g.S.Seat.goes g.S.Seat.stays g.S.Seat.goes_on c.args.slots.now c.loop-index.slots c.run_phase.new.slots before.come c.run_phase.ensures.come;
      may = c.run_phase.ensures.may;
      ran = λ honest opened front together.
          let there = honest_on g.row.S.Denot g.S.Seat.view g.S.Seat.goes g.S.Seat.stays g.S.Seat.goes_on g.S.Seat.is_honest g.S.Seat.honest_stays c.args.slots.now c.loop-index.slots c.requires.seated before.come honest in
          phase_failed c.args.plan.now opened (length c.args.slots.now) (c.loop-index.index + 1) (view_at g.S.Seat.view c.loop-index.slots) (view_at g.S.Seat.view c.run_phase.new.slots) c.loop-index.kept c.run_phase.result
          c.from_residual.result c.from_residual.ensures.0 (ap (λ (n : ℕ). n + 1) before.long) few (before.ran honest opened front together)
          (subst (λ (n : ℕ). PhaseRuns c.args.plan.now opened n (c.loop-index.index + 1) (view_at g.S.Seat.view c.loop-index.slots) (view_at g.S.Seat.view c.run_phase.new.slots) c.run_phase.result) before.come.count
          (c.run_phase.ensures.ran there c.args.plan.now is opened));
    }

pub returns-in_err-push : goal.returns-in_err-push
returns-in_err-push g c =
    let before = c.loop-index.invariant in
    let plan : c.as_slice-sessions-items.result.now ≡ c.args.plan.now = c.as_slice-sessions-items.ensures in
    let read : slice_get c.as_slice-sessions-items.result.now c.loop-index.index ≡ Some c.sessions-item.result =
    slice_get_read c.as_slice-sessions-items.result.now (length c.as_slice-sessions-items.result.now) c.loop-index.index c.sessions-item.result refl c.loop-index-test.true c.sessions-item.is in
    let is : IsPhaseOf c.args.plan.now (c.loop-index.index + 1) c.as_slice.result.now =
    phase_at c.args.plan.now c.loop-index.index c.as_slice.result.now (subst (λ (p : Plan). slice_get p c.loop-index.index ≡ Some c.sessions-item.result) plan read ∙ ap (λ (s : List SessionPlan). Some s) (sym c.as_slice.ensures)) in
    let test = c.loop-index-test.true in
    let count = ap length plan in
    let few : c.loop-index.index + 1 ≤ length c.args.plan.now = omega (arith, test, count) in
    record {
      come = come_on g.row.S.Denot g.S.Seat.view g.S.Seat.goes g.S.Seat.stays g.S.Seat.goes_on c.args.slots.now c.loop-index.slots c.run_phase.new.slots before.come c.run_phase.ensures.come;
      may = c.run_phase.ensures.may;
      ran = λ honest opened front together.
          let there = honest_on g.row.S.Denot g.S.Seat.view g.S.Seat.goes g.S.Seat.stays g.S.Seat.goes_on g.S.Seat.is_honest g.S.Seat.honest_stays c.args.slots.now c.loop-index.slots c.requires.seated before.come honest in
          phase_failed c.args.plan.now opened (length c.args.slots.now) (c.loop-index.index + 1) (view_at g.S.Seat.view c.loop-index.slots) (view_at g.S.Seat.view c.run_phase.new.slots) c.loop-index.kept c.run_phase.result
          c.from_residual-in_err-push.result c.from_residual-in_err-push.ensures.0 (ap (λ (n : ℕ). n + 1) before.long) few (before.ran honest opened front together)
          (subst (λ (n : ℕ). PhaseRuns c.args.plan.now opened n (c.loop-index.index + 1) (view_at g.S.Seat.view c.loop-index.slots) (view_at g.S.Seat.view c.run_phase.new.slots) c.run_phase.result) before.come.count
          (c.run_phase.ensures.ran there c.args.plan.now is opened));
    }

pub loop-index-preserved : goal.loop-index-preserved
loop-index-preserved g c =
    let before = c.loop-index.invariant in
    let plan : c.as_slice-sessions-items.result.now ≡ c.args.plan.now = c.as_slice-sessions-items.ensures in
    let read : slice_get c.as_slice-sessions-items.result.now c.loop-index.index ≡ Some c.sessions-item.result =
    slice_get_read c.as_slice-sessions-items.result.now (length c.as_slice-sessions-items.result.now) c.loop-index.index c.sessions-item.result refl c.loop-index-test.true c.sessions-item.is in
    let is : IsPhaseOf c.args.plan.now (c.loop-index.index + 1) c.as_slice.result.now =
    phase_at c.args.plan.now c.loop-index.index c.as_slice.result.now (subst (λ (p : Plan). slice_get p c.loop-index.index ≡ Some c.sessions-item.result) plan read ∙ ap (λ (s : List SessionPlan). Some s) (sym c.as_slice.ensures)) in
    record {
      come = come_on g.row.S.Denot g.S.Seat.view g.S.Seat.goes g.S.Seat.stays g.S.Seat.goes_on c.args.slots.now c.loop-index.slots c.run_phase.new.slots before.come c.run_phase.ensures.come;
      may = c.run_phase.ensures.may;
      long = ap length c.in_ok-push.ensures.ok ∙ length-append c.loop-index.kept (c.in_ok-one.one ∷ []) ∙ ap (λ (n : ℕ). n + 1) before.long;
      ran = λ honest opened front together.
          let there = honest_on g.row.S.Denot g.S.Seat.view g.S.Seat.goes g.S.Seat.stays g.S.Seat.goes_on g.S.Seat.is_honest g.S.Seat.honest_stays c.args.slots.now c.loop-index.slots c.requires.seated before.come honest in
          subst (λ (k : List (List (List Kept))). HasComeTo opened.base.page_count c.args.plan.now opened (length c.args.slots.now) (c.loop-index.index + 1 + 1) (kept_by_place k) (view_at g.S.Seat.view c.run_phase.new.slots))
          (sym c.in_ok-push.ensures.ok)
          (subst (λ (n : ℕ). PhaseRuns {E = AllocError} c.args.plan.now opened n (c.loop-index.index + 1) (view_at g.S.Seat.view c.loop-index.slots) (view_at g.S.Seat.view c.run_phase.new.slots) (Ok c.in_ok-one.one)) before.come.count
          (c.in_ok-one.ensures.ran there c.args.plan.now is opened) c.loop-index.kept (ap (λ (n : ℕ). n + 1) before.long) (before.ran honest opened front together));
    }

pub returns : goal.returns
returns g c =
    let before = c.loop-index.invariant in
    let plan : length c.as_slice-sessions-items.result.now ≡ length c.args.plan.now = ap length c.as_slice-sessions-items.ensures in
    let all : c.loop-index.index ≡ length c.args.plan.now = omega (arith, plan, c.loop-index-test.false, c.loop-index.auto.index-end) in
    record {
      come = before.come;
      may = before.may;
      ran = λ honest opened front together.
          subst (λ (n : ℕ). HasComeTo opened.base.page_count c.args.plan.now opened (length c.args.slots.now) (n + 1) (kept_by_place c.loop-index.kept) (view_at g.S.Seat.view c.loop-index.slots)) all (before.ran honest opened front together);
    }

pub run_phase-requires-clause-count : goal.run_phase-requires-clause-count
run_phase-requires-clause-count g c κs within = c.loop-index.invariant.come.count ∙ c.requires.count
