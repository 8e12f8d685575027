use Rattle.std.proofs.Common.{◌≡◌, ◌∙◌, ◌+◌, ◌++◌, ◌<◌, ℕ, List, [], ◌∷◌, length, take, sym, ap, subst, arith}
use Rattle.skippy.specs.Mappings.{Mappings}
use Rattle.gate_log.specs.Bodies.{bodies_of, BreaksAs}
use Rattle.records.specs.InTurn.{InTurn}
use Rattle.records.specs.Maplog.{mappings_after, IsMappingBody, IsMaplog}
use Rattle.records.proofs.Maps.{breaks_later}
use Rattle.records.proofs.Turns.{body_at, body_more, length-bodies, in_turn-push, reached-push}
use Rattle.records.proofs.maplog.mappings_of.Goals as goal

pub returns-in-Err : goal.returns-in-Err
returns-in-Err c = λ capacity first is.
    let i = c.loop-count.count in
    let bodies = bodies_of c.args.bodies.now in
    let so_far = c.loop-count.invariant in
    let lt : i < length bodies = omega (arith, length-bodies c.args.bodies.now, c.loop-count-test.true) in
    subst (BreaksAs (IsMaplog c.args.version c.args.page_count capacity) (first ∷ bodies)) (sym c.stopped_at.ensures)
    (breaks_later c.args.version c.args.page_count capacity first bodies c.args.start c.loop-count.mappings so_far.0 c.deref.result.now i c.in-Err.error is lt so_far.1 so_far.2
    (body_at c.args.bodies.now i c.index-bodies-count.result c.loop-count-test.true c.index-bodies-count.is ∙ sym c.deref.ensures.value) c.in-Err.ensures)

pub loop-count-preserved : goal.loop-count-preserved
loop-count-preserved c =
    let start = c.args.start in
    let i = c.loop-count.count in
    let bodies = bodies_of c.args.bodies.now in
    let so_far = c.loop-count.invariant in
    let entry = c.in-Ok.entry in
    let front : take (i + 1) bodies ≡ take i bodies ++ c.deref.result.now ∷ [] =
    body_more c.args.bodies.now i c.index-bodies-count.result c.loop-count-test.true c.index-bodies-count.is ∙ ap (λ (b : List ℕ). take i bodies ++ b ∷ []) (sym c.deref.ensures.value) in
    let there = subst (λ (p : Mappings). IsMappingBody c.args.version c.args.page_count p c.deref.result.now entry) so_far.2 c.in-Ok.ensures in
    let more = in_turn-push (IsMappingBody c.args.version c.args.page_count) mappings_after start (take i bodies) so_far.0 c.deref.result.now entry so_far.1 there in (
      so_far.0 ++ entry ∷ [],
      subst (λ (l : List (List ℕ)). InTurn (IsMappingBody c.args.version c.args.page_count) mappings_after start l (so_far.0 ++ entry ∷ [])) (sym front) more,
      c.in_ok-add-in-Ok.ensures ∙ ap (λ (p : Mappings). mappings_after p entry) so_far.2 ∙ sym (reached-push (IsMappingBody c.args.version c.args.page_count) mappings_after start so_far.0 entry),
    )
