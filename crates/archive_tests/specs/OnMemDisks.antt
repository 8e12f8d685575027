-- An archive on devices in memory, and what a crash leaves of these.
use Rattle.std.specs.Prelude.{◌≡◌, ◌+◌, ◌%◌, ◌<◌, ℕ, [], false, List, length, get_or}
use Rattle.disk_model.specs.Disk.{IsImage}
use Rattle.disk_mem.specs.Disks.{Device}
use Rattle.disk_mem.specs.History.{state_of}
use Rattle.block_file.specs.Blocks.{block_at}
use Rattle.skippy.specs.Mappings.{Mappings}
use Rattle.map_log.specs.Log.{ListsMappings, MapArea}
use Rattle.replay.specs.Opened.{forgotten}
use Rattle.race_model.specs.Vault.{Batch, IsSlotOf, Vault}
use Rattle.archive.specs.Archive.{IsVault, Running}

-- the archive is the vault, which goes on, and of which no call failed
pub record GoesOnAs (archive : Running Device) (vault : Vault) : Type 0 where
  pub is : IsVault (λ _. Unit {0}) (λ device. state_of device.past) archive vault
  pub going : vault.stopped ≡ false
  pub unfailed : vault.others ≡ []

-- each image that a crash leaves now has P
abbrev pub EachImage : Device → (List ℕ → Type 0) → Type 0
EachImage device P = (image : List ℕ) → IsImage (state_of device.past) image → P image

-- it has the batch's captures in their slots
abbrev pub HasCaptures : ℕ → Batch → List ℕ → Type 0
HasCaptures slots batch image = (place : ℕ) → place < length batch.images
    → block_at image ((batch.first + place) % slots) ≡ (get_or batch.images place forgotten).bytes

-- it has the vault's other slots, but for those that were loose before
abbrev pub HasOtherSlots : ℕ → Vault → Batch → List ℕ → Type 0
HasOtherSlots slots vault batch image = (slot : ℕ) → (IsSlotOf slots batch slot → ⊥) → vault.loose slot ≡ false
    → block_at image slot ≡ vault.slots slot

-- it lists these mappings, in the records of the log
abbrev pub Lists : MapArea → Mappings → List ℕ → Type 0
Lists log mappings image = ListsMappings log.version log.page_count log.capacity mappings image
