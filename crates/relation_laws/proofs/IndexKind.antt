-- A kind of index, with its laws.
use Rattle.std.specs.Prelude.{ℕ, List, Result}
use Rattle.retro_base.specs.declared.refusal.Refusal.{Refusal}
use Rattle.values.specs.declared.value.Value.{Value}
use Rattle.pager.specs.Index.{IsIndexing, IsListed, IsShaped}
use Rattle.pager.specs.Pages.{Pages}
use Rattle.pager.specs.declared.index.Found.{Found}

pub record IndexKind : Type 1 where
  pub Shape : Type 0
  pub IsShape : Shape → Type 0
  pub empty : Shape
  pub entries : Shape → List Found
  pub put : Found → Shape → Shape
  pub without : Found → Shape → Shape
  pub opens : Value → ℕ → Shape → ℕ
  pub lists : ℕ → Pages → ℕ → Shape → List ℕ → Type 0
  pub made : ℕ → Pages → Result (ℕ × Pages) Refusal → Type 0
  pub added : ℕ → ℕ → Found → Pages → Result (Unit {0} × Pages) Refusal → Type 0
  pub removed : ℕ → ℕ → Found → Pages → Result (Unit {0} × Pages) Refusal → Type 0
  pub ranged : ℕ → ℕ → Value → Value → Pages → Result (List Found) Refusal → Type 0
  pub shaped : IsShaped IsShape empty entries put without opens
  pub listed : IsListed IsShape lists
  pub indexing : IsIndexing empty entries put without opens lists made added removed ranged
