use Rattle.std.proofs.Common.{◌≡◌, ◌∙◌, ◌+ℤ◌, arith, sym}
use Rattle.std.proofs.lemmas.Int.{ints}
use Rattle.evaluation.specs.Bound.{seen, value_at}
use Rattle.sql_select.proofs.Eaches.{number_more, text_more}
use Rattle.sql_select.proofs.aggregates.sum_over.Goals as goal
use Rattle.sql_select.proofs.aggregates.sum_over.Goals.{in-Int, in-Text}

pub add-preserved : goal.add-preserved
add-preserved c =
    let so_far = rw c.add.sum-is at c.add.invariant.rest in
    elim c.match-get.branch [
      | in-Int w ↦
          let added : c.match-get.sum ≡ c.add.sum +ℤ w.in-Int.number = omega (arith, ints) in
          record {
            rest = rw c.match-get.sum-is (number_more (value_at c.args.expression.now) c.args.rows.now c.add.i c.index-rows-i.result (seen c.in_ok-value.value) c.add.has_text c.match-get.has_text c.add.sum c.match-get.sum _ c.add-test.true c.index-rows-i.is c.in_ok-value.ensures so_far w.in-Int.number (sym c.get.ensures ∙ w.in-Int.is) w.has_text-is added);
            low = omega (arith, ints);
            high = omega (arith, ints);
          }
      | in-Text w ↦
          record {
            rest = rw c.match-get.sum-is (text_more (value_at c.args.expression.now) c.args.rows.now c.add.i c.index-rows-i.result (seen c.in_ok-value.value) c.add.has_text c.match-get.has_text c.add.sum c.match-get.sum _ c.add-test.true c.index-rows-i.is c.in_ok-value.ensures so_far w.in-Text.field-0 (sym c.get.ensures ∙ w.in-Text.is) w.has_text-is);
            low = omega (arith, ints);
            high = omega (arith, ints);
          }
    ]
