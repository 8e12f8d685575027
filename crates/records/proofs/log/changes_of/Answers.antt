use Rattle.std.proofs.Common.{◌≡◌, ◌∙◌, ◌+◌, ◌++◌, ◌<◌, ℕ, List, [], ◌∷◌, length, take, sym, ap, subst, arith}
use Rattle.std.proofs.lemmas.List.{length_push}
use Rattle.history.specs.declared.entry.Base.{Base}
use Rattle.history.specs.declared.entry.Change.{Change}
use Rattle.history.specs.History.{base_after}
use Rattle.gate_log.specs.Bodies.{bodies_of, BreaksAs}
use Rattle.records.specs.InTurn.{InTurn, reached}
use Rattle.records.specs.Log.{IsChangeBody, IsLog}
use Rattle.records.proofs.Logs.{breaks_later}
use Rattle.records.proofs.Turns.{body_at, body_more, length-bodies, in_turn-push, reached-push}
use Rattle.records.proofs.log.changes_of.Goals as goal

pub returns-in-Err-clause-broken : goal.returns-in-Err-clause-broken
returns-in-Err-clause-broken c = λ first is.
    let i = c.loop-body.body-index in
    let bodies = bodies_of c.args.bodies.now in
    let lt : i < length bodies = omega (arith, length-bodies c.args.bodies.now, c.loop-body-test.true) in
    subst (BreaksAs (IsLog c.args.version) (first ∷ bodies)) (sym c.stopped_at.ensures)
    (breaks_later c.args.version first bodies c.args.base.now c.loop-body.place c.loop-body.changes.items c.deref.result.now i _ c.in-Err.error is lt c.loop-body.invariant.in_turn c.loop-body.invariant.place
    (body_at c.args.bodies.now i c.body-item.result c.loop-body-test.true c.body-item.is ∙ sym c.deref.ensures.value) (omega (arith, c.loop-body.invariant.count, c.len.ensures)) c.in-Err.ensures)

pub loop-body-preserved : goal.loop-body-preserved
loop-body-preserved c =
    let base = c.args.base.now in
    let i = c.loop-body.body-index in
    let bodies = bodies_of c.args.bodies.now in
    let old = c.loop-body.changes.items in
    let change = c.in-Ok.change in
    let front : take (i + 1) bodies ≡ take i bodies ++ c.deref.result.now ∷ [] =
    body_more c.args.bodies.now i c.body-item.result c.loop-body-test.true c.body-item.is ∙ ap (λ (b : List ℕ). take i bodies ++ b ∷ []) (sym c.deref.ensures.value) in
    let items : c.push.new.self.items ≡ old ++ change ∷ [] = c.in_ok-push-in-Ok.ensures.items in
    let there = subst (λ (p : Base). IsChangeBody c.args.version p c.deref.result.now change) c.loop-body.invariant.place c.in-Ok.ensures in
    let more = in_turn-push (IsChangeBody c.args.version) base_after base (take i bodies) old c.deref.result.now change c.loop-body.invariant.in_turn there in
    record {
      in_turn =
          subst (λ (l : List (List ℕ)). InTurn (IsChangeBody c.args.version) base_after base l c.push.new.self.items) (sym front)
          (subst (λ (l : List Change). InTurn (IsChangeBody c.args.version) base_after base (take i bodies ++ c.deref.result.now ∷ []) l) (sym items) more);
      place =
          c.in_ok-apply-in-Ok.ensures.done ∙ ap (λ (p : Base). base_after p change) c.loop-body.invariant.place ∙ sym (reached-push (IsChangeBody c.args.version) base_after base old change) ∙ ap (reached base_after base) (sym items);
      count = omega (arith, ap (λ (l : List Change). length l) items, length_push old change, c.loop-body.invariant.count);
    }
