use Rattle.std.proofs.Common.{rules, sym}
use Rattle.std.proofs.lemmas.Map.Keys.{le_from_is_le}
use Rattle.std.proofs.lemmas.List.Sorted.{IsNonDecreasingBy-from_sort_by_key, IsNonDecreasingBy-from_all_adjacent, IsPermutation-refl}
use Rattle.std.proofs.lemmas.Fn.{always_returns_same}
use Rattle.heap_file.specs.declared.chain.Placed.{Placed}
use Rattle.heap_file.proofs.scanning.in_order.Goals as goal
use Rattle.heap_file.proofs.scanning.in_order.Goals.{then-not-is_sorted_by_key+in_ok-sort_by_key, else-not-is_sorted_by_key}

pub returns : goal.returns
returns c = elim c.if-not-is_sorted_by_key.branch [
  | then-not-is_sorted_by_key+in_ok-sort_by_key w ↦
      rw w.rows-is (
        w.in_ok-sort_by_key.ensures.permutation,
        IsNonDecreasingBy-from_sort_by_key (λ (placed : Placed). placed.number) _ w.in_ok-sort_by_key.ensures.sorted (λ a r q k. search rules),
      )
  | else-not-is_sorted_by_key w ↦
      let cases = rw (c.deref.ensures.value, w.if-not-is_sorted_by_key.false) at c.is_sorted_by_key.ensures.cases (λ (placed : Placed). placed.number) (always_returns_same _ _ _ (λ a r q k. search rules)) in
      rw w.rows-is (
        IsPermutation-refl _,
        IsNonDecreasingBy-from_all_adjacent (λ (placed : Placed). placed.number) c.args.rows.items (λ k d short. le_from_is_le _ _ (sym (cases k d short))),
      )
]
