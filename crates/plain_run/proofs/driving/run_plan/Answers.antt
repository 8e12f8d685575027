use Rattle.std.proofs.Common.{◌≡◌, ◌+◌, ◌∷◌, [], List, Some, ap, arith, length, length-append, refl, slice_get, subst, sym, ◌∙◌}
use Rattle.std.proofs.lemmas.Option.{slice_get_read}
use Rattle.history.specs.declared.journal.Line.{Line}
use Rattle.retro_base.specs.declared.limits.TheConstants.{MEMORY_CAPACITY, MEMORY_PAGES}
use Rattle.plain_store.specs.Plain.{zero_ground}
use Rattle.session.specs.Plan.{IsPhaseOf, Plan}
use Rattle.session.specs.Replies.{kept_by_place, printed}
use Rattle.session.specs.declared.kept.Kept.{Kept}
use Rattle.session.specs.declared.plan.SessionPlan.{SessionPlan}
use Rattle.plain_run.specs.Turns.{CameThrough, RanPlainly}
use Rattle.plain_run.proofs.Turning.{phase_at, run_ends}
use Rattle.plain_run.proofs.driving.run_plan.Goals as goal

pub loop-index-preserved : goal.loop-index-preserved
loop-index-preserved g c =
    let before = c.loop-index.invariant in
    let plan : c.as_slice-sessions-items.result.now ≡ c.args.plan.now = c.as_slice-sessions-items.ensures in
    let read : slice_get c.as_slice-sessions-items.result.now c.loop-index.index ≡ Some c.sessions-item.result =
    slice_get_read c.as_slice-sessions-items.result.now (length c.as_slice-sessions-items.result.now) c.loop-index.index c.sessions-item.result refl c.loop-index-test.true c.sessions-item.is in
    let is : IsPhaseOf c.args.plan.now (c.loop-index.index + 1) c.as_slice.result.now =
    phase_at c.args.plan.now c.loop-index.index c.as_slice.result.now (subst (λ (p : Plan). slice_get p c.loop-index.index ≡ Some c.sessions-item.result) plan read ∙ ap (λ (s : List SessionPlan). Some s) (sym c.as_slice.ensures)) in
    record {
      long = ap length c.in_ok-push.ensures.ok ∙ length-append c.loop-index.kept (c.in_ok-next.one ∷ []) ∙ ap (λ n. n + 1) before.long;
      came = subst (λ k. CameThrough c.args.plan.now (zero_ground MEMORY_PAGES MEMORY_CAPACITY) c.in_ok-next.next k (c.loop-index.index + 1 + 1) 0) (sym c.in_ok-push.ensures.ok)
          (c.in_ok-next.ensures c.args.plan.now is (zero_ground MEMORY_PAGES MEMORY_CAPACITY) c.loop-index.kept (ap (λ n. n + 1) before.long) before.came);
    }

pub returns : goal.returns
returns g c =
    let before = c.loop-index.invariant in
    let plan : length c.as_slice-sessions-items.result.now ≡ length c.args.plan.now = ap length c.as_slice-sessions-items.ensures in
    let all : c.loop-index.index ≡ length c.args.plan.now = omega (arith, plan, c.loop-index-test.false, c.loop-index.auto.index-end) in
    let text = c.in_ok-transcript.ensures
    ∙ ap (λ (k : List (List (List Kept))). printed c.args.plan.now (kept_by_place k) 0 c.as_slice-3.result.now) c.as_slice-2.ensures
    ∙ ap (λ (lines : List Line). printed c.args.plan.now (kept_by_place c.loop-index.kept) 0 lines) (c.as_slice-3.ensures ∙ c.into_journal-journal.ensures) in
    subst (λ journal. RanPlainly c.args.plan.now journal c.in_ok-transcript.transcript.items) (sym c.into_journal-journal.ensures)
    (run_ends c.args.plan.now c.loop-index.store c.loop-index.kept c.in_ok-transcript.transcript.items c.store_law.ensures (before.long ∙ all)
    (subst (λ n. CameThrough c.args.plan.now (zero_ground MEMORY_PAGES MEMORY_CAPACITY) c.loop-index.store c.loop-index.kept (n + 1) 0) all before.came) text)
