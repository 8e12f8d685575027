-- How many pages one more entry opens.
use Rattle.std.specs.Prelude.{◌≡◌, ◌<◌, ◌≤◌, ◌+◌, ℕ, zero, suc, List, [], ◌∷◌, length, if◌then◌else◌}
use Rattle.std.specs.Ordering.{is_lt}
use Rattle.values.specs.declared.value.Value.{Value}
use Rattle.pager.specs.Index.{IsFound, found_cmp}
use Rattle.pager.specs.declared.index.Found.{Found}
use Rattle.tree_index.specs.Tree.{IsShape, Key, Shape, Tree, named, opens}

-- the entries of the leaf in which an entry belongs
abbrev pub in_row : {X : Type 0} → (X → List Found) → Found → X → List (Key × X) → List Found
in_row inside entry first [] = inside first
in_row inside entry first (b ∷ rest) =
    if is_lt (found_cmp entry (named b.0 0)) then inside first else in_row inside entry b.1 rest

abbrev pub target : Found → (levels : ℕ) → Tree levels → List Found
target entry zero entries = entries
target entry (suc levels) row = in_row (target entry levels) entry row.0 row.1

-- at most one more than there are levels, and none where the leaf in which it belongs has fewer than four entries
pub record OpensFew : Type 0 where
  pub at_most_levels : (value : Value) (number : ℕ) (shape : Shape) → opens value number shape ≤ 2 + shape.levels
  pub none_of_three : (entry : Found) (shape : Shape) → IsShape shape → IsFound entry
      → length (target entry shape.levels shape.tree) < 4 → opens entry.value entry.number shape ≡ 0
