-- The vault as plain data: what the Maplog's device and the Pagelog's device may hold.
use Rattle.std.specs.Prelude.{◌≡◌, ◌⊎◌, ◌+◌, ◌%◌, ◌<◌, max, ℕ, Bool, false, List, [], ◌∷◌, length, get_or, Contains}
use Rattle.history.specs.declared.log.Version.{Version}
use Rattle.history.specs.declared.writes.PageImage.{PageImage}
use Rattle.history.specs.Writes.{pages_of}
use Rattle.skippy.specs.Mappings.{Mappings, push, trim}
use Rattle.replay.specs.Opened.{forgotten}

-- what a Maplog lists: mappings, in records of a version
pub record Maplog : Type 0 where
  pub version : Version
  pub mappings : Mappings

-- The Maplog lists `mappings` in records of this version, or is one of `others` since a call failed. Below `laid` the
-- slots hold their captures. `loose` slots were written since the Pagelog was settled.
pub record Vault : Type 0 where
  pub version : Version
  pub mappings : Mappings
  pub others : List Maplog
  pub laid : ℕ
  pub slots : ℕ → List ℕ
  pub loose : ℕ → Bool
  pub stopped : Bool

-- captures on their way from the desk to the vault, numbered from `first` on; mappings below `low` may be forgotten
pub record Batch : Type 0 where
  pub first : ℕ
  pub low : ℕ
  pub images : List PageImage

-- the images of these pages with these bytes
abbrev pub images_of : List ℕ → List (List ℕ) → List PageImage
images_of [] all = []
images_of (page ∷ pages) [] = []
images_of (page ∷ pages) (bytes ∷ all) = record { page = page; bytes = bytes } ∷ images_of pages all

-- the number behind the last of them
abbrev pub batch_end : Batch → ℕ
batch_end batch = batch.first + length batch.images

-- the same with other mappings
abbrev pub listing : Vault → Mappings → Maplog
listing vault mappings = record { version = vault.version; mappings = mappings }

-- a Maplog that an image may list
abbrev pub IsMaplogOf : Vault → Maplog → Type 0
IsMaplogOf vault maplog = (maplog ≡ listing vault vault.mappings) ⊎ Contains vault.others maplog

-- slots that an image may hold: any bytes where they are loose
abbrev pub AreSlotsOf : Vault → (ℕ → List ℕ) → Type 0
AreSlotsOf vault slots = (slot : ℕ) → vault.loose slot ≡ false → slots slot ≡ vault.slots slot

-- the mappings from a number on, where that is above their lowest
abbrev pub trim_to : Mappings → ℕ → Mappings
trim_to mappings low = trim mappings (max mappings.low low)

-- trimmed, and the batch's mapped behind them
abbrev pub enter_into : Mappings → Batch → Mappings
enter_into mappings batch = push (trim_to mappings batch.low) (pages_of batch.images)

-- a slot of one of the batch's captures
abbrev pub IsSlotOf : ℕ → Batch → ℕ → Type 0
IsSlotOf capacity batch slot = (place : ℕ) × (place < length batch.images) × (slot ≡ (batch.first + place) % capacity)

-- outside the batch's slots nothing changes, and nothing becomes loose
pub record LeavesOthers (capacity : ℕ) (vault : Vault) (batch : Batch) (slots : ℕ → List ℕ) (loose : ℕ
    → Bool) : Type 0 where
  pub same : (slot : ℕ) → (IsSlotOf capacity batch slot → ⊥) → slots slot ≡ vault.slots slot
  pub sure : (slot : ℕ) → (IsSlotOf capacity batch slot → ⊥) → vault.loose slot ≡ false → loose slot ≡ false

-- the batch's slots hold its captures, and nothing is loose
pub record HoldsBatch (capacity : ℕ) (batch : Batch) (slots : ℕ → List ℕ) (loose : ℕ → Bool) : Type 0 where
  pub bytes : (place : ℕ) → place < length batch.images
      → slots ((batch.first + place) % capacity) ≡ (get_or batch.images place forgotten).bytes
  pub settled : (slot : ℕ) → loose slot ≡ false
