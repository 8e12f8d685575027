use Rattle.std.proofs.Common.{◌≡◌, length, arith, length-append, sym, ◌∙◌}
use Rattle.sql_tree.specs.declared.statement.Column.{Column}
use Rattle.relation.specs.Catalog.{IsColumnTold}
use Rattle.relation.proofs.Finding.{none_told, told-push, told_there}
use Rattle.relation.proofs.catalog.columns_of.Goals as goal

pub returns-in-None : goal.returns-in-None
returns-in-None c =
    none_told c.args.rows.now c.places.place c.places-test.true (sym c.at_place.ensures ∙ c.in-None.is)

pub places-preserved : goal.places-preserved
places-preserved c =
    let column = c.in_ok-copy-in-Some.field-0 in
    let here = sym c.at_place.ensures ∙ c.in-Some.is in
    let long : length c.places.columns ≡ c.places.place = c.places.invariant.count in
    let last : IsColumnTold c.args.rows.now (length c.places.columns) column = rw long (told_there c.args.rows.now c.places.place c.in-Some.k c.index-rows-k.result column here c.in_ok-copy-in-Some.ensures) in
    record {
      count = rw c.in_ok-push-in-Some.ensures.ok (omega (arith, length-append {A = Column}, long));
      each = λ k d lt.
          rw c.in_ok-push-in-Some.ensures.ok
          (told-push c.args.rows.now c.places.columns column (λ j e below. c.places.invariant.each j e (omega (arith, long, below))) last k d (omega (arith, long, lt)));
    }
