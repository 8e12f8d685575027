-- What a command does to the cabinet, from which it takes the devices of one store.
use Rattle.std.specs.Prelude.{◌≡◌, ◌↔◌, ℕ, List, Option, Some}
use Rattle.disk_model.specs.Cabinet.{SameOut, Stands}
use Rattle.retro_base.specs.Cause.{IsFault}
use Rattle.retro_base.specs.declared.device.Device.TheVariants.{Cabinet}
use Rattle.retro_base.specs.declared.refusal.Refusal.{Refusal}

-- the refusal of a cabinet that handed out none: its count of faults rose, and each name has what it had
pub record HandsOutNone {C Store : Type 0} (faults : C → ℕ) (is_out : C → List ℕ → Type 0) (tells : C → Type 0)
    (store : C → List ℕ → Option Store) (old new : C) (refusal : Refusal) : Type 0 where
  pub fault : IsFault Cabinet (faults old) (faults new) refusal
  pub told : tells old ↔ tells new
  pub out : SameOut (is_out old) (is_out new)
  pub stands : tells old → (name : List ℕ) → store new name ≡ store old name

-- Devices were handed out under that name and have come back, so that these stand there; no call of the cabinet failed,
-- and no store is out that was not.
pub record TakesBack {C Store : Type 0} (faults : C → ℕ) (is_out : C → List ℕ → Type 0) (tells : C → Type 0)
    (store : C → List ℕ → Option Store) (dir : List ℕ) (old new : C) (back : Store) : Type 0 where
  pub count : faults new ≡ faults old
  pub told : tells old ↔ tells new
  pub out : (name : List ℕ) → is_out new name → is_out old name
  pub stands : tells old → Stands dir (Some back) (store old) (store new)
