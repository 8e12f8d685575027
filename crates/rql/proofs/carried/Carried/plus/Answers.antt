use Rattle.std.proofs.Common.{◌≡◌, ◌∙◌, SFits, ap, arith, of_z, pos, rules, to_z, ◌-ℤ◌, ◌+ℤ◌, ◌^◌}
use Rattle.std.specs.Int.{w128}
use Rattle.std.proofs.lemmas.Int.{ints, to_z-of_z}
use Rattle.rql.proofs.Parts.{down_is, some_is, up_is}
use Rattle.rql.proofs.carried.Carried.plus.Goals as goal

pub returns-then-low-gt-UNIT : goal.returns-then-low-gt-UNIT
returns-then-low-gt-UNIT g c =
    let high : c.in_ok-high.high ≡ to_z w128 (of_z w128 c.args.self.high) +ℤ pos 1 =
    some_is c.checked_add.result _ _ c.in_ok-high.high c.checked_add.ensures c.in_ok-high.ensures.ok_part in
    let was : SFits w128 c.args.self.high = search rules in
    let is : SFits w128 c.in_ok-high.high = search rules in
    up_is c.args.self.high c.args.self.low c.args.number
    (to_z w128 (of_z w128 c.in_ok-high.high))
    (to_z w128 (of_z w128 (to_z w128 (of_z w128 c.combine-low.result) -ℤ pos (2 ^ 64))))
    (to_z-of_z w128 c.in_ok-high.high is ∙ high ∙ ap (λ z. z +ℤ pos 1) (to_z-of_z w128 c.args.self.high was))
    (omega (arith, ints))

pub returns-then-low : goal.returns-then-low
returns-then-low g c =
    let high : c.in_ok-high-2.high ≡ to_z w128 (of_z w128 c.args.self.high) -ℤ pos 1 =
    some_is c.checked_sub.result _ _ c.in_ok-high-2.high c.checked_sub.ensures c.in_ok-high-2.ensures.ok_part in
    down_is c.args.self.high c.args.self.low c.args.number
    (to_z w128 (of_z w128 c.in_ok-high-2.high))
    (to_z w128 (of_z w128 (to_z w128 (of_z w128 c.combine-low.result) +ℤ pos (2 ^ 64))))
    (omega (arith, ints))
    (omega (arith, ints))
