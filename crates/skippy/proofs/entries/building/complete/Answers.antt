use Rattle.std.proofs.Common.{◌≡◌, ◌∙◌, ◌+◌, ◌-◌, ◌*◌, ◌/◌, ◌≤◌, ◌<◌, ℕ, sym, ap, arith, take, length, max, ◌++◌, length-append}
use Rattle.std.proofs.Math.Nat.{mul-le-mul_right}
use Rattle.std.specs.Int.{div_ceil}
use Rattle.skippy.specs.Mappings.{Mappings, coming, end_of}
use Rattle.skippy.specs.Segments.{size_of}
use Rattle.skippy.proofs.LevelLemmas.{size-some, ceil-above, floor-within, level-begins, level-more, level-ends, level-still}
use Rattle.skippy.proofs.entries.building.complete.Goals as goal

pub loop-index-init : goal.loop-index-init
loop-index-init c =
    let m : Mappings = record { low = c.args.low; pages = c.args.pages.now } in
    let size : ℕ = size_of c.args.height in
    let known : c.max-known.result ≡ max (div_ceil c.args.low (size_of c.args.height)) ((c.args.low + length c.args.pages.now) / size_of c.args.height)
    = c.max-known.ensures ∙ ap (λ b. max b ((c.args.low + c.len.result) / c.range_of-size.result)) c.div_ceil-base.ensures
    ∙ ap (λ n. max (div_ceil c.args.low c.range_of-size.result) ((c.args.low + n) / c.range_of-size.result)) c.len.ensures
    ∙ ap (λ n. max (div_ceil c.args.low n) ((c.args.low + length c.args.pages.now) / n)) c.range_of-size.ensures.same in
    let kept : c.truncate.new.self ≡ take (c.max-known.result - div_ceil c.args.low (size_of c.args.height)) c.args.level.now
    = c.truncate.ensures ∙ ap (λ b. take (c.max-known.result - b) c.args.level.now) (c.div_ceil-base.ensures ∙ ap (div_ceil c.args.low) c.range_of-size.ensures.same) in
    record {
      least = omega (arith, known);
      known = omega (arith, known);
      made = rw kept (level-begins m c.args.more.now size c.max-known.result c.args.level.now c.requires.is_level (size-some c.args.height) known);
    }

pub segment_of-requires-clause-kept : goal.segment_of-requires-clause-kept
segment_of-requires-clause-kept c =
    omega (arith, ceil-above c.args.low (size_of c.args.height) (size-some c.args.height), mul-le-mul_right (size_of c.args.height) c.loop-index.invariant.least)

pub returns-in_err-segment-clause-still : goal.returns-in_err-segment-clause-still
returns-in_err-segment-clause-still c =
    level-still (record { low = c.args.low; pages = c.args.pages.now }) c.args.more.now (size_of c.args.height) c.loop-index.index c.loop-index.level c.loop-index.invariant.made (size-some c.args.height) c.loop-index.invariant.known

pub returns-in_err-push-clause-still : goal.returns-in_err-push-clause-still
returns-in_err-push-clause-still c =
    rw c.in_err-push.ensures.err
    (level-still (record { low = c.args.low; pages = c.args.pages.now }) c.args.more.now (size_of c.args.height) c.loop-index.index c.loop-index.level c.loop-index.invariant.made (size-some c.args.height) c.loop-index.invariant.known)

pub loop-index-preserved : goal.loop-index-preserved
loop-index-preserved c = record {
  least = omega (arith, c.loop-index.invariant.least);
  known = omega (arith, c.loop-index.invariant.known);
  made =
      rw c.in_ok-push.ensures.ok
      (level-more (coming c.args.low c.args.pages.now c.args.more.now) (size_of c.args.height) c.loop-index.index c.loop-index.level c.in_ok-segment.segment
      c.loop-index.invariant.made (size-some c.args.height) c.loop-index.invariant.least c.in_ok-segment.ensures.ok);
}

pub returns-clause-still : goal.returns-clause-still
returns-clause-still c =
    level-still (record { low = c.args.low; pages = c.args.pages.now }) c.args.more.now (size_of c.args.height) c.loop-index.index c.loop-index.level c.loop-index.invariant.made (size-some c.args.height) c.loop-index.invariant.known

pub returns-clause-ok : goal.returns-clause-ok
returns-clause-ok c =
    let count : length (c.args.pages.now ++ c.args.more.now) ≡ c.len.result + length c.args.more.now = omega (arith, length-append c.args.pages.now c.args.more.now, c.len.ensures) in
    let end : c.args.low + length (c.args.pages.now ++ c.args.more.now) ≡ c.args.low + c.len.result + length c.args.more.now = omega arith in
    let all : (c.args.low + length (c.args.pages.now ++ c.args.more.now)) / size_of c.args.height ≤ c.loop-index.index
    = rw end (rw (sym c.range_of-size.ensures.same) c.loop-index-test.false) in
    level-ends (coming c.args.low c.args.pages.now c.args.more.now) (size_of c.args.height) c.loop-index.index c.loop-index.level c.loop-index.invariant.made (size-some c.args.height) all
