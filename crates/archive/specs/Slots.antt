-- The slots of an archive on their device.
use Rattle.std.specs.Prelude.{◌≡◌, ◌+◌, ◌%◌, ◌==◌, ◌||◌, ℕ, zero, suc, Bool, false, List, length, get_or, if◌then◌else◌}
use Rattle.disk_model.specs.Disk.{State}
use Rattle.block_file.specs.Blocks.{block_at, IsSettled}
use Rattle.replay.specs.Opened.{forgotten}
use Rattle.race_model.specs.Vault.{AreSlotsOf, Batch, HoldsBatch, LeavesOthers, Vault}
use Rattle.race_model.specs.Machine.{laid, lay_failed}

-- the device reads as these slots, and those that are sure are settled
pub record AreSlots (state : State) (slots : ℕ → List ℕ) (loose : ℕ → Bool) : Type 0 where
  pub reads : (slot : ℕ) → block_at state.seen slot ≡ slots slot
  pub sure : (slot : ℕ) → loose slot ≡ false → IsSettled state slot

-- whether the slot is one of that many captures' from a number on
abbrev pub takes : ℕ → ℕ → ℕ → ℕ → Bool
takes capacity first zero slot = false
takes capacity first (suc count) slot = (slot == (first + count) % capacity) || takes capacity first count slot

-- the bytes of each slot with so many of the batch's captures laid
abbrev pub with_captures : ℕ → Batch → (ℕ → List ℕ) → ℕ → ℕ → List ℕ
with_captures capacity batch slots zero slot = slots slot
with_captures capacity batch slots (suc count) slot =
    if slot == (batch.first + count) % capacity then (get_or batch.images count forgotten).bytes
    else with_captures capacity batch slots count slot

-- the slots that may be loose while a batch is laid
abbrev pub loosened : ℕ → Vault → Batch → ℕ → Bool
loosened capacity vault batch slot = vault.loose slot || takes capacity batch.first (length batch.images) slot

-- some laying of the batch makes a vault that has P
pub record SomeLaying (capacity : ℕ) (vault : Vault) (batch : Batch) (P : Vault → Type 0) : Type 0 where
  pub slots : ℕ → List ℕ
  pub loose : ℕ → Bool
  pub others : LeavesOthers capacity vault batch slots loose
  pub holds : HoldsBatch capacity batch slots loose
  pub is : P (laid vault batch slots loose)

-- some failing of it makes a vault that has P
pub record SomeFailedLaying (capacity : ℕ) (vault : Vault) (batch : Batch) (P : Vault → Type 0) : Type 0 where
  pub slots : ℕ → List ℕ
  pub loose : ℕ → Bool
  pub others : LeavesOthers capacity vault batch slots loose
  pub is : P (lay_failed vault slots loose)

-- the image has slots that the vault may have
abbrev pub HasSlotsOf : Vault → List ℕ → Type 0
HasSlotsOf vault image = AreSlotsOf vault (block_at image)
