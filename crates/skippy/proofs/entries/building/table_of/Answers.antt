use Rattle.std.proofs.Common.{◌≡◌, ◌∙◌, ◌+◌, ◌-◌, ◌*◌, ◌^◌, ◌≤◌, ◌<◌, ◌∷◌, [], ℕ, IfSome, sym, ap, subst, arith}
use Rattle.std.specs.Int.{div_ceil}
use Rattle.skippy.specs.FirstTable.{meet}
use Rattle.skippy.specs.Mappings.{Mappings, coming, end_of, first_mappings}
use Rattle.skippy.specs.Segments.{size_of, from_start, meet_each, IsLevel}
use Rattle.skippy.proofs.MeetLemmas.{first_mappings-none, first_mappings-next, first_mappings-join, meet_each-first_mappings}
use Rattle.skippy.proofs.LevelLemmas.{InRange, in-part, range-is, no-more, size-some, ceil-least, segment-is, segment-there}
use Rattle.skippy.proofs.entries.building.table_of.Goals.{in-None+else-loop-number-test, in-Some+else-loop-part-test}
use Rattle.skippy.proofs.entries.building.table_of.Goals as goal

pub loop-number-preserved : goal.loop-number-preserved
loop-number-preserved c =
    let m : Mappings = coming c.args.low c.args.pages.now c.args.more.now in
    let first : c.args.index * c.range_of-size.result ≡ c.args.index * size_of c.args.height = ap (λ n. c.args.index * n) c.range_of-size.ensures.same in
    let last : (c.args.index + 1) * c.range_of-size.result ≡ (c.args.index + 1) * size_of c.args.height = ap (λ n. (c.args.index + 1) * n) c.range_of-size.ensures.same in
    let above : c.args.index * size_of c.args.height ≤ c.loop-number.number = omega arith in
    let below : c.loop-number.number < end_of m = omega (arith, c.loop-number-test.true, c.requires.known) in
    c.in_ok-meet-in-None.ensures.ok
    ∙ ap (λ t. meet t ((c.page_at-page.result, c.loop-number.number) ∷ [])) c.loop-number.invariant
    ∙ first_mappings-next m (c.args.index * size_of c.args.height) c.loop-number.number c.page_at-page.result c.requires.kept above below c.page_at-page.ensures

pub overflow_step-part : goal.overflow_step-part
overflow_step-part c =
    let rises : c.args.index * size_of c.args.height ≤ (c.args.index + 1) * size_of c.args.height = omega arith in
    let few : c.args.index * c.fan-fan.result ≤ 2 ^ 62
    = no-more (c.args.index * c.fan-fan.result) (size_of (c.args.height - 1)) (2 ^ 62) (size-some (c.args.height - 1))
    (omega (arith, range-is c.args.height c.args.index c.fan-fan.result c.requires.height.0 c.fan-fan.ensures, c.requires.known, c.requires.room)) in
    omega arith

pub overflow_add-part-end : goal.overflow_add-part-end
overflow_add-part-end c =
    let few : c.args.index + 1 ≤ 2 ^ 62
    = no-more (c.args.index + 1) (size_of c.args.height) (2 ^ 62) (size-some c.args.height) (omega (arith, c.requires.known, c.requires.room)) in
    omega arith

pub overflow_mul-part-end : goal.overflow_mul-part-end
overflow_mul-part-end c =
    let few : (c.args.index + 1) * c.fan-fan.result ≤ 2 ^ 62
    = no-more ((c.args.index + 1) * c.fan-fan.result) (size_of (c.args.height - 1)) (2 ^ 62) (size-some (c.args.height - 1))
    (omega (arith, range-is c.args.height (c.args.index + 1) c.fan-fan.result c.requires.height.0 c.fan-fan.ensures, c.requires.known, c.requires.room)) in
    omega arith

pub loop-part-init : goal.loop-part-init
loop-part-init c =
    let m : Mappings = coming c.args.low c.args.pages.now c.args.more.now in
    c.new-table.ensures
    ∙ sym (ap (first_mappings m (c.args.index * size_of c.args.height)) (range-is c.args.height c.args.index c.fan-fan.result c.requires.height.0 c.fan-fan.ensures)
    ∙ first_mappings-none m (c.args.index * size_of c.args.height))

pub overflow_sub-place : goal.overflow_sub-place
overflow_sub-place c =
    let m : Mappings = coming c.args.low c.args.pages.now c.args.more.now in
    let range : InRange m (size_of (c.args.height - 1)) (c.args.index * c.fan-fan.result) c.loop-part.part ((c.args.index + 1) * c.fan-fan.result)
    = in-part m c.args.height c.args.index c.fan-fan.result c.loop-part.part c.requires.height.0 c.fan-fan.ensures c.requires.kept c.requires.known (omega arith) c.loop-part-test.true in
    rw (c.div_ceil.ensures ∙ ap (div_ceil c.args.low) c.range_of-size-in-Some.ensures.same)
    (ceil-least c.args.low (size_of (c.args.height - 1)) c.loop-part.part (size-some (c.args.height - 1)) range.kept)

pub segment-requires : goal.segment-requires
segment-requires c =
    let m : Mappings = coming c.args.low c.args.pages.now c.args.more.now in
    let range : InRange m (size_of (c.args.height - 1)) (c.args.index * c.fan-fan.result) c.loop-part.part ((c.args.index + 1) * c.fan-fan.result)
    = in-part m c.args.height c.args.index c.fan-fan.result c.loop-part.part c.requires.height.0 c.fan-fan.ensures c.requires.kept c.requires.known (omega arith) c.loop-part-test.true in
    let is_level : IsLevel m (size_of (c.args.height - 1)) c.in-Some.level.now
    = subst (λ o. IfSome o (λ l. IsLevel m (size_of (c.args.height - 1)) l.now)) c.in-Some.is c.requires.complete_below in
    let place : c.loop-part.part - c.div_ceil.result ≡ c.loop-part.part - div_ceil c.args.low (size_of (c.args.height - 1))
    = ap (λ n. c.loop-part.part - n) (c.div_ceil.ensures ∙ ap (div_ceil c.args.low) c.range_of-size-in-Some.ensures.same) in
    segment-there m (size_of (c.args.height - 1)) c.loop-part.part (c.loop-part.part - c.div_ceil.result) c.in-Some.level.now is_level range.kept range.known place

pub overflow_mul-part : goal.overflow_mul-part
overflow_mul-part c =
    let m : Mappings = coming c.args.low c.args.pages.now c.args.more.now in
    let range : InRange m (size_of (c.args.height - 1)) (c.args.index * c.fan-fan.result) c.loop-part.part ((c.args.index + 1) * c.fan-fan.result)
    = in-part m c.args.height c.args.index c.fan-fan.result c.loop-part.part c.requires.height.0 c.fan-fan.ensures c.requires.kept c.requires.known (omega arith) c.loop-part-test.true in
    let start : c.loop-part.part * c.range_of-size-in-Some.result ≡ c.loop-part.part * size_of (c.args.height - 1) = ap (λ n. c.loop-part.part * n) c.range_of-size-in-Some.ensures.same in
    omega (arith, start, range.next, range.known, c.requires.room)

pub meet_places-requires : goal.meet_places-requires
meet_places-requires c =
    let m : Mappings = coming c.args.low c.args.pages.now c.args.more.now in
    let range : InRange m (size_of (c.args.height - 1)) (c.args.index * c.fan-fan.result) c.loop-part.part ((c.args.index + 1) * c.fan-fan.result)
    = in-part m c.args.height c.args.index c.fan-fan.result c.loop-part.part c.requires.height.0 c.fan-fan.ensures c.requires.kept c.requires.known (omega arith) c.loop-part-test.true in
    let start : c.loop-part.part * c.range_of-size-in-Some.result ≡ c.loop-part.part * size_of (c.args.height - 1) = ap (λ n. c.loop-part.part * n) c.range_of-size-in-Some.ensures.same in
    omega (arith, start, range.next, range.known, c.requires.room)

pub loop-part-preserved : goal.loop-part-preserved
loop-part-preserved c =
    let m : Mappings = coming c.args.low c.args.pages.now c.args.more.now in
    let range : InRange m (size_of (c.args.height - 1)) (c.args.index * c.fan-fan.result) c.loop-part.part ((c.args.index + 1) * c.fan-fan.result)
    = in-part m c.args.height c.args.index c.fan-fan.result c.loop-part.part c.requires.height.0 c.fan-fan.ensures c.requires.kept c.requires.known (omega arith) c.loop-part-test.true in
    let is_level : IsLevel m (size_of (c.args.height - 1)) c.in-Some.level.now
    = subst (λ o. IfSome o (λ l. IsLevel m (size_of (c.args.height - 1)) l.now)) c.in-Some.is c.requires.complete_below in
    let place : c.loop-part.part - c.div_ceil.result ≡ c.loop-part.part - div_ceil c.args.low (size_of (c.args.height - 1))
    = ap (λ n. c.loop-part.part - n) (c.div_ceil.ensures ∙ ap (div_ceil c.args.low) c.range_of-size-in-Some.ensures.same) in
    let size : ℕ = size_of (c.args.height - 1) in
    let made : from_start (c.loop-part.part * c.range_of-size-in-Some.result) c.segment.result.now ≡ first_mappings m (c.loop-part.part * size_of (c.args.height - 1)) ((c.loop-part.part + 1) * size_of (c.args.height - 1))
    = ap (λ n. from_start (c.loop-part.part * n) c.segment.result.now) c.range_of-size-in-Some.ensures.same
    ∙ segment-is m (size_of (c.args.height - 1)) c.loop-part.part (c.loop-part.part - c.div_ceil.result) c.in-Some.level.now c.segment.result.now is_level range.kept range.known place c.segment.ensures in
    let begin : c.args.index * c.fan-fan.result * size_of (c.args.height - 1) ≡ c.args.index * size_of c.args.height = range-is c.args.height c.args.index c.fan-fan.result c.requires.height.0 c.fan-fan.ensures in
    c.in_ok-meet_places-in-Some.ensures.ok
    ∙ ap (meet_each c.loop-part.table) made
    ∙ meet_each-first_mappings c.loop-part.table m (c.loop-part.part * size_of (c.args.height - 1)) ((c.loop-part.part + 1) * size_of (c.args.height - 1)) range.kept
    ∙ ap (λ t. meet t (first_mappings m (c.loop-part.part * size_of (c.args.height - 1)) ((c.loop-part.part + 1) * size_of (c.args.height - 1)))) c.loop-part.invariant
    ∙ first_mappings-join m (c.args.index * size_of c.args.height) (c.loop-part.part * size_of (c.args.height - 1)) ((c.loop-part.part + 1) * size_of (c.args.height - 1)) c.requires.kept (omega (arith, begin, range.above)) range.next range.known

pub returns-clause-ok : goal.returns-clause-ok
returns-clause-ok c = elim c.match-below.branch [
  | in-None+else-loop-number-test w ↦
      (let m : Mappings = coming c.args.low c.args.pages.now c.args.more.now in
      let last : (c.args.index + 1) * w.range_of-size.result ≡ (c.args.index + 1) * size_of c.args.height = ap (λ n. (c.args.index + 1) * n) w.range_of-size.ensures.same in
      let end : w.loop-number.number ≡ (c.args.index + 1) * size_of c.args.height = omega arith in
      w.table-is ∙ w.loop-number.invariant ∙ ap (first_mappings m (c.args.index * size_of c.args.height)) end)
  | in-Some+else-loop-part-test w ↦
      (let m : Mappings = coming c.args.low c.args.pages.now c.args.more.now in
      let last : w.loop-part.part ≡ (c.args.index + 1) * w.fan-fan.result = omega arith in
      let end : w.loop-part.part * size_of (c.args.height - 1) ≡ (c.args.index + 1) * size_of c.args.height
      = ap (λ n. n * size_of (c.args.height - 1)) last ∙ range-is c.args.height (c.args.index + 1) w.fan-fan.result c.requires.height.0 w.fan-fan.ensures in
      w.table-is ∙ w.loop-part.invariant ∙ ap (first_mappings m (c.args.index * size_of c.args.height)) end)
]
