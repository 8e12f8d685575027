-- The making of a store.
use Rattle.std.specs.Prelude.{◌≡◌, ◌⊎◌, ◌++◌, ◌∷◌, [], ℕ, List, Option, Result, MatchResult, OnOk, codes}
use Rattle.std.specs.Fmt.{decimal}
use Rattle.std.specs.Result.{IsErrAnd}
use Rattle.disk_model.specs.Cabinet.{AreSized}
use Rattle.disk_model.specs.Disk.{State}
use Rattle.disk_model.specs.declared.four.Four.{Four}
use Rattle.disk_model.specs.declared.four.Sizes.{Sizes}
use Rattle.history.specs.declared.log.Version.TheVariants.{One}
use Rattle.retro_base.specs.declared.refusal.Refusal.{Refusal}
use Rattle.opening.specs.Devices.{AreHonest, AreImages, IsUnopened, of_each, SameCounts}
use Rattle.session.specs.Line.{line}
use Rattle.store_format.specs.Empty.{IsEmptyStore}
use Rattle.tables.specs.Tables.{no_tables}
use Rattle.retro.specs.Says.{Ends, HasCausesOn}
use Rattle.retro.specs.Seen.{Seen}
use Rattle.retro.specs.Storing.{OpensShowing}
use Rattle.retro.specs.Stores.{HandsOutNone, TakesBack}

-- what is written of a new store
abbrev pub formatted_line : Sizes → List ℕ
formatted_line sizes = line (codes "formatted" ++ 32 ∷ (decimal sizes.pages ++ 32 ∷ decimal sizes.capacity))

-- Devices of these sizes, so as they were handed out and so as they came back, and whether a store was made on them: it
-- was not exactly where a call of a device failed, and for want of memory. Where they tell their bytes they tell what
-- they hold, and every crash leaves the empty store, which shows no tables: the premises of a run.
pub record Makes {D : Type 0} (extent faults : D → ℕ) (is_honest : D → Type 0) (state : D → State) (told : Type 0)
    (sizes : Sizes) (first last : Four D) (result : Result (Unit {0}) Refusal) : Type 0 where
  pub sized : AreSized extent sizes first
  pub cause : MatchResult result (λ _. SameCounts (of_each faults first) (of_each faults last))
      (IsUnopened (λ _ _. ⊥) (of_each faults first) (of_each faults last))
  pub honest : told → AreHonest is_honest last
  pub empty : told → OnOk result ((devices : Four (List ℕ)) → AreImages state last devices
      → IsEmptyStore One sizes devices)
  pub shows : told → OnOk result
      (OpensShowing state sizes.pages (λ tables. tables ≡ record { current = no_tables; marks = [] }) last)

-- the cabinet handed out no devices, or a store was made on those that it handed out, or was not
abbrev pub MakesIn : {C D : Type 0} → (C → ℕ) → (C → List ℕ → Type 0) → (C → Type 0) → (C → List ℕ → Option (Four D))
    → (D → ℕ) → (D → ℕ) → (D → Type 0) → (D → State) → List ℕ → Sizes → C → C → Result (Unit {0}) Refusal → Type 0
MakesIn faults is_out tells store extent device_faults is_honest state dir sizes old new result =
    IsErrAnd result (HandsOutNone faults is_out tells store old new)
    ⊎ ((first last : Four _) × TakesBack faults is_out tells store dir old new last
    × Makes extent device_faults is_honest state (tells old) sizes first last result)

module _ {C D : Type 0} (faults : C → ℕ) (is_out : C → List ℕ → Type 0) (tells : C → Type 0)
    (store : C → List ℕ → Option (Four D)) (extent device_faults : D → ℕ) (is_honest : D → Type 0) (state : D → State)
    (dir : List ℕ) (sizes : Sizes) (sink : Seen) (old new : C) (status : ℕ) where
  -- `format DIR PAGES CAPACITY`: a store was made or not, and so it ends
  pub record Formats : Type 0 where
    pub made : Result (Unit {0}) Refusal
    pub makes : MakesIn faults is_out tells store extent device_faults is_honest state dir sizes old new made
    pub ends : Ends sink (λ _. formatted_line sizes) made status

  -- the law of its status: 7 never comes, and with 0 a store was made
  abbrev pub StatusesOfFormatTellCauses : Type 0
  StatusesOfFormatTellCauses =
      Formats
      → HasCausesOn (0 ∷ 5 ∷ 6 ∷ 8 ∷ [])
      (MakesIn faults is_out tells store extent device_faults is_honest state dir sizes old new)
      (λ _. formatted_line sizes) sink status
