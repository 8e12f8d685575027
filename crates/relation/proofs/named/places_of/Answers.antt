use Rattle.relation.specs.Named.{place_under}
use Rattle.std.proofs.Common.{◌∙◌, sym, arith}
use Rattle.relation.proofs.Naming.{place-new, place-there, place-is}
use Rattle.relation.proofs.named.places_of.Goals as goal
use Rattle.relation.proofs.named.places_of.Goals.{then-not-contains_key+in_ok-copy+in_ok-insert, else-not-contains_key}

pub loop-place-preserved : goal.loop-place-preserved
loop-place-preserved c =
    elim c.if-not-contains_key.branch [
      | then-not-contains_key+in_ok-copy+in_ok-insert w ↦
          rw w.places-is
          (place-new c.loop-place.places w.insert.new.self c.args.tables.now c.loop-place.place c.index-tables-place.result w.in_ok-copy.field-0 w.in_ok-copy.ensures c.loop-place-test.true c.index-tables-place.is (sym c.contains_key.ensures ∙ w.if-not-contains_key.true) w.in_ok-insert.ensures.updates.0 c.loop-place.invariant)
      | else-not-contains_key w ↦
          rw w.places-is
          (place-there c.loop-place.places c.args.tables.now c.loop-place.place c.index-tables-place.result c.loop-place-test.true c.index-tables-place.is (sym c.contains_key.ensures ∙ w.if-not-contains_key.false) c.loop-place.invariant)
    ]

pub returns : goal.returns
returns c = λ name.
    place-is name c.args.tables.now c.loop-place.place (place_under c.loop-place.places name) (omega (arith, c.loop-place-test.false)) (omega (arith, c.loop-place-test.false)) (c.loop-place.invariant name)
