use Rattle.std.proofs.Common.{◌∙◌, ◌+◌, List, ap, arith, length, subst, sym}
use Rattle.std.proofs.lemmas.List.{length_push}
use Rattle.std.proofs.lemmas.Option.{slice_get-get_or}
use Rattle.rql.specs.declared.groups.Cell.{Cell}
use Rattle.rql.proofs.GroupFolds.{CellsOf, cells_more}
use Rattle.rql.proofs.groups.Group.new.Goals as goal

pub loop-place-preserved : goal.loop-place-preserved
loop-place-preserved g c =
    let before = c.loop-place.invariant in
    let Of : List Cell → Type 0 = λ cells. CellsOf c.args.functions.now c.args.row.now cells in
    record {
      as_many = ap length c.in_ok-push.ensures.items ∙ length_push c.loop-place.cells.items c.in_ok-new.field-0 ∙ ap (λ n. n + 1) before.as_many;
      cells = subst Of (sym c.in_ok-push.ensures.items)
          (cells_more c.args.functions.now c.args.row.now c.loop-place.cells.items c.loop-place.place _ c.in_ok-new.field-0 before.as_many (slice_get-get_or c.args.functions.now c.loop-place.place _ (omega arith)) c.in_ok-new.ensures before.cells);
    }
