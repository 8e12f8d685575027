-- How many pages one more entry opens.
use Rattle.std.specs.Prelude.{◌≡◌, ◌<◌, ◌≤◌, ℕ, List, length}
use Rattle.values.specs.declared.value.Value.{Value}
use Rattle.pager.specs.Index.{IsFound}
use Rattle.pager.specs.declared.index.Found.{Found}
use Rattle.run_index.specs.Run.{IsShape, opens, target}

-- at most one, and none where the page in which it belongs has fewer than four entries
pub record OpensFew : Type 0 where
  pub at_most_one : (value : Value) (number : ℕ) (shape : List (List Found)) → opens value number shape ≤ 1
  pub none_of_three : (entry : Found) (shape : List (List Found)) → IsShape shape → IsFound entry
      → length (target entry shape) < 4 → opens entry.value entry.number shape ≡ 0
