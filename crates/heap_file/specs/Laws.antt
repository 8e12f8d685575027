-- What follows of the calls' contracts.
use Rattle.std.specs.Prelude.{◌≡◌, ℕ, List, Result}
use Rattle.retro_base.specs.declared.refusal.Refusal.{Refusal}
use Rattle.values.specs.declared.value.Value.{Value}
use Rattle.pager.specs.Pages.{Pages}
use Rattle.heap_file.specs.Work.{added, got, made, next_of}

-- no two answers are allowed
abbrev pub IsOne : {A : Type 0} → (Result A Refusal → Type 0) → Type 0
IsOne {A} allows = (r s : Result A Refusal) → allows r → allows s → r ≡ s

-- The pages determine what these calls answer, and the pages after them: one answer, with one state, is allowed.
pub record AnswersAreOne : Type 0 where
  pub make : (size : ℕ) (pages : Pages) → IsOne (made size pages)
  pub next_number : (size : ℕ) (pages : Pages) (first : ℕ) → IsOne (next_of size pages first)
  pub get : (size : ℕ) (pages : Pages) (page number : ℕ) → IsOne (got size pages page number)
  pub add : (size : ℕ) (pages : Pages) (first : ℕ) (row : List Value) → IsOne (added size pages first row)
