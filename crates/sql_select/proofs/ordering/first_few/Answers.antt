use Rattle.std.proofs.Common.{◌≡◌, ◌∙◌, ◌++◌, [], ◌∷◌, ap, arith, length, sym, subst, take, List, length-take}
use Rattle.sql_select.specs.Order.{comes_before, placed}
use Rattle.sql_select.specs.declared.output_row.OutputRow.{OutputRow}
use Rattle.sql_select.proofs.Cutting.{few-onto, few-rise, onto, onto-last, onto-nothing}
use Rattle.sql_select.proofs.Sorting.{Rises, placed_rises, rises_sorted}
use Rattle.sql_select.proofs.SortKeys.{weak}
use Rattle.sql_select.proofs.ordering.first_few.Goals as goal

pub rows-init : goal.rows-init
rows-init c =
    let P : List OutputRow → Type 0 = λ l. Rises (comes_before c.args.keys.now) l in
    record {
      same = ap (λ l. take c.args.count (onto (comes_before c.args.keys.now) c.args.rows.items l)) c.new-kept.ensures.items ∙ ap (take c.args.count) (onto-nothing (comes_before c.args.keys.now) c.args.rows.items);
      few = omega (arith, ap length c.new-kept.ensures.items);
      rise = subst P (sym c.new-kept.ensures.items) tt;
    }

pub keep-requires-clause-sorted : goal.keep-requires-clause-sorted
keep-requires-clause-sorted c = rises_sorted (comes_before c.args.keys.now) c.rows.kept.items c.rows.invariant.rise

pub rows-preserved : goal.rows-preserved
rows-preserved c =
    let P : List OutputRow → Type 0 = λ l. Rises (comes_before c.args.keys.now) l in
    let kept = c.in_ok-keep.ensures.kept in
    let popped : c.rows.rest.items ≡ c.pop.new.self.items ++ c.in-Some.row ∷ [] = c.in-Some.ensures.items in
    record {
      same =
          ap (λ l. take c.args.count (onto (comes_before c.args.keys.now) c.pop.new.self.items l)) kept
          ∙ sym (few-onto (comes_before c.args.keys.now) c.args.count c.pop.new.self.items (placed (comes_before c.args.keys.now) c.in-Some.row c.rows.kept.items))
          ∙ ap (take c.args.count) (sym (onto-last (comes_before c.args.keys.now) c.pop.new.self.items c.in-Some.row c.rows.kept.items) ∙ ap (λ l. onto (comes_before c.args.keys.now) l c.rows.kept.items) (sym popped))
          ∙ c.rows.invariant.same;
      few = omega (arith, ap length kept, length-take c.args.count (placed (comes_before c.args.keys.now) c.in-Some.row c.rows.kept.items));
      rise = subst P (sym kept) (few-rise (comes_before c.args.keys.now) c.args.count (placed (comes_before c.args.keys.now) c.in-Some.row c.rows.kept.items)
          (placed_rises (comes_before c.args.keys.now) (weak c.args.keys.now) c.in-Some.row c.rows.kept.items c.rows.invariant.rise));
    }
