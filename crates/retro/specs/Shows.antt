-- What is shown of a store.
use Rattle.std.specs.Prelude.{◌≡◌, ◌⊎◌, ◌++◌, ◌∷◌, ℕ, List, [], Option, Some, Result, IfOk, MatchResult, codes}
use Rattle.std.specs.Fmt.{decimal}
use Rattle.std.specs.Result.{IsErrAnd}
use Rattle.disk_model.specs.Disk.{State}
use Rattle.disk_model.specs.Moments.{Clock}
use Rattle.disk_model.specs.declared.four.Four.{Four}
use Rattle.history.specs.declared.log.Version.TheVariants.{One}
use Rattle.retro_base.specs.declared.refusal.Refusal.{Refusal}
use Rattle.opening.specs.Devices.{AreUnwritten, IsUnopened, of_each, SameCounts}
use Rattle.session.specs.Line.{line}
use Rattle.store.specs.Opening.{AreRefused, IsShownOf}
use Rattle.store.specs.declared.fetching.Shown.{Shown}
use Rattle.retro.specs.Says.{Ends, HasCausesOn}
use Rattle.retro.specs.Seen.{Seen}
use Rattle.retro.specs.Stores.{HandsOutNone, TakesBack}

-- a word and a number
abbrev pub number_line : List ℕ → ℕ → List ℕ
number_line word number = line (word ++ 32 ∷ decimal number)

-- the six lines of a store
abbrev pub shown_text : Shown → List ℕ
shown_text shown =
    number_line (codes "version") 1
    ++ (number_line (codes "pages") shown.sizes.pages
    ++ (number_line (codes "capacity") shown.sizes.capacity
    ++ (number_line (codes "oldest") shown.oldest
    ++ (number_line (codes "newest") shown.newest
    ++ number_line (codes "captures") shown.captures))))

-- The devices of a store, so as they were handed out and so as they came back with nothing written on them, and what
-- was found on them: what their bytes open to; or a device of which a call failed, or the place at which they are no
-- store.
pub record Looks {D : Type 0} (extent faults : D → ℕ) (is_honest : D → Type 0) (remembers : Type 0) (state : D → State)
    (clock : D → Clock) (first last : Four D) (result : Result Shown Refusal) : Type 0 where
  pub unwritten : AreUnwritten extent is_honest remembers state clock first last
  pub cause : MatchResult result (λ _. SameCounts (of_each faults first) (of_each faults last))
      (IsUnopened (AreRefused extent is_honest state One first) (of_each faults first) (of_each faults last))
  pub shown : IfOk result (IsShownOf is_honest state One first)

-- the cabinet handed out no devices, or those that stood there
abbrev pub LooksIn : {C D : Type 0} → (C → ℕ) → (C → List ℕ → Type 0) → (C → Type 0) → (C → List ℕ → Option (Four D))
    → (D → ℕ) → (D → ℕ) → (D → Type 0) → Type 0 → (D → State) → (D → Clock) → List ℕ → C → C → Result Shown Refusal
    → Type 0
LooksIn faults is_out tells store extent device_faults is_honest remembers state clock dir old new result =
    IsErrAnd result (HandsOutNone faults is_out tells store old new)
    ⊎ ((first last : Four _) × (tells old → store old dir ≡ Some first)
    × TakesBack faults is_out tells store dir old new last
    × Looks extent device_faults is_honest remembers state clock first last result)

module _ {C D : Type 0} (faults : C → ℕ) (is_out : C → List ℕ → Type 0) (tells : C → Type 0)
    (store : C → List ℕ → Option (Four D)) (extent device_faults : D → ℕ) (is_honest : D → Type 0) (remembers : Type 0)
    (state : D → State) (clock : D → Clock) (dir : List ℕ) (sink : Seen) (old new : C) (status : ℕ) where
  -- `show DIR`: this was found, and so it ends
  pub record Shows : Type 0 where
    pub found : Result Shown Refusal
    pub looks : LooksIn faults is_out tells store extent device_faults is_honest remembers state clock dir old new found
    pub ends : Ends sink shown_text found status

  -- the law of its status
  abbrev pub StatusesOfShowTellCauses : Type 0
  StatusesOfShowTellCauses =
      Shows
      → HasCausesOn (0 ∷ 5 ∷ 6 ∷ 7 ∷ 8 ∷ [])
      (LooksIn faults is_out tells store extent device_faults is_honest remembers state clock dir old new) shown_text
      sink status
