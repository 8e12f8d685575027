-- What follows from these definitions: for a reader's table, which is kept while an archive goes on, and for the slots
-- that a crash leaves.
use Rattle.std.specs.Prelude.{◌≡◌, ◌↔◌, ◌≤◌, max, ℕ, List}
use Rattle.disk_model.specs.Disk.{State, IsImage}
use Rattle.skippy.specs.Mappings.{Mappings, pages_in}
use Rattle.page_table.specs.Table.{IsFirstMet, Table}
use Rattle.race_model.specs.Vault.{Vault}
use Rattle.archive.specs.Side.{Shows}
use Rattle.archive.specs.Slots.{AreSlots, HasSlotsOf}

-- a table stays one of first mappings where the mappings that it covers are the same, and none of them is forgotten
abbrev pub TableStays : Type 0
TableStays = (table : Table) (old new : Mappings) → IsFirstMet table old → new.low ≤ table.start
    → pages_in new table.start table.covered ≡ pages_in old table.start table.covered → IsFirstMet table new

-- a table that covers no more than is entered is one of the vault's first mappings exactly where it is one of those in
-- memory
abbrev pub TableIsShown : Type 0
TableIsShown = (table : Table) (levels : Mappings) (held : ℕ) (mappings : Mappings) → Shows levels held mappings
    → levels.low ≤ table.start → table.covered ≤ max table.start held
    → IsFirstMet table mappings ↔ IsFirstMet table levels

-- whatever a crash leaves of a device with the vault's slots has slots that the vault may have
abbrev pub ImagesHaveSlots : {D : Type 0} → (D → State) → Type 0
ImagesHaveSlots {D} state = (disk : D) (vault : Vault) (image : List ℕ) → AreSlots (state disk) vault.slots vault.loose
    → IsImage (state disk) image → HasSlotsOf vault image
