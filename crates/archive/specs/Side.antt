-- The mappings of an archive, in memory and on their device.
use Rattle.std.specs.Prelude.{◌≡◌, ◌⊎◌, ◌↔◌, ◌+◌, ◌-◌, ◌*◌, ◌<◌, ◌≤◌, ℕ, None, true, false, List}
use Rattle.std.specs.Prelude.{length, take, drop, max, Result, OnOk, OnErr, IfErr, MatchResult}
use Rattle.std.specs.List.{AllByRecursion}
use Rattle.disk_model.specs.Disk.{State, IsImage}
use Rattle.disk_model.specs.Moments.{Clock, LeavesOnly}
use Rattle.retro_base.specs.declared.limits.TheConstants.{BATCH, MAX_CAPTURES}
use Rattle.retro_base.specs.declared.refusal.Refusal.{Refusal}
use Rattle.gate_log.specs.Cause.{IsDiskFault}
use Rattle.history.specs.Writes.{pages_of}
use Rattle.skippy.specs.Mappings.{Mappings, end_of, push}
use Rattle.map_log.specs.Bodies.{run_length}
use Rattle.map_log.specs.Log.{AreSound, HasRoomFor, IsMapArea, Keeps, ListsMappings, MapArea}
use Rattle.race_model.specs.Machine.{trimmed}
use Rattle.race_model.specs.Vault.{Batch, batch_end, IsMaplogOf, Maplog, trim_to, Vault}

-- the device, what its log knows, the mappings in memory, and how many captures are entered
pub record Side (D : Type 0) : Type 0 where
  pub disk : D
  pub log : MapArea
  pub levels : Mappings
  pub held : ℕ

-- What holds of them: the log is of the device and of its store; the mappings in memory are of pages of the store, no
-- more than its capacity, and go on up to `held` at least, and no further while the log goes on.
pub record IsSide {D : Type 0} (extent : D → ℕ) (side : Side D) : Type 0 where
  pub log : IsMapArea side.log
  pub whole : extent side.disk ≡ 2 * side.log.area.log.size
  pub low : side.levels.low ≤ side.held
  pub known : side.held ≤ end_of side.levels
  pub going : side.log.area.fault ≡ None → end_of side.levels ≡ side.held
  pub few : end_of side.levels ≤ side.levels.low + side.log.capacity
  pub sound : AreSound side.log.page_count side.levels

-- Memory shows mappings up to `held`: from its own lowest on they are the same. Behind `held` it may have more, which a
-- failed append left.
pub record Shows (levels : Mappings) (held : ℕ) (mappings : Mappings) : Type 0 where
  pub above : mappings.low ≤ levels.low
  pub low : levels.low ≤ held
  pub known : held ≤ end_of levels
  pub end : end_of mappings ≡ held
  pub same : drop (levels.low - mappings.low) mappings.pages ≡ take (held - levels.low) levels.pages

-- the bytes list a Maplog that the vault's device may hold
pub record ListsMaplogOf (log : MapArea) (vault : Vault) (bytes : List ℕ) : Type 0 where
  pub maplog : Maplog
  pub is : IsMaplogOf vault maplog
  pub lists : ListsMappings maplog.version log.page_count log.capacity maplog.mappings bytes

-- memory has forgotten the mappings below the lowest of a Maplog that the vault's device may hold
pub record IsLowestOf (low : ℕ) (vault : Vault) : Type 0 where
  pub maplog : Maplog
  pub is : IsMaplogOf vault maplog
  pub same : maplog.mappings.low ≡ low

-- The side of the mappings is the vault's. While the vault goes on, memory and the device have its mappings; once it
-- has stopped, memory shows them, and each image lists a Maplog of its own.
pub record IsMapSide {D : Type 0} (is_honest : D → Type 0)
    (state : D → State) (side : Side D) (vault : Vault) : Type 0 where
  pub in_version : vault.version ≡ side.log.version
  pub shows : Shows side.levels side.held vault.mappings
  pub lowest : IsLowestOf side.levels.low vault
  pub going : vault.stopped ≡ false → side.levels ≡ vault.mappings
  pub keeps : is_honest side.disk → vault.stopped ≡ false → Keeps side.log vault.mappings (state side.disk)
  pub images : is_honest side.disk → (image : List ℕ) → IsImage (state side.disk) image
      → ListsMaplogOf side.log vault image

-- its device is of the same size and as honest as it was, and its log of the same store and version
pub record SameSide {D : Type 0} (is_honest : D → Type 0) (old new : Side D) : Type 0 where
  pub honest : is_honest old.disk ↔ is_honest new.disk
  pub in_version : new.log.version ≡ old.log.version
  pub page_count : new.log.page_count ≡ old.log.page_count
  pub capacity : new.log.capacity ≡ old.log.capacity

-- The side behind a call that forgets the mappings below a number, and holds as many captures as before. A call that
-- was refused for want of memory changed nothing, and one whose device failed left the mappings in memory as they were.
pub record Lowers {D : Type 0} (old : Side D) (low : ℕ) (result : Result (Unit {0}) Refusal)
    (new : Side D) : Type 0 where
  pub held : new.held ≡ old.held
  pub levels : OnOk result (new.levels ≡ trim_to old.levels low)
  pub going : OnOk result (new.log.area.fault ≡ None)
  pub left : OnErr result (new.levels ≡ old.levels)
  pub untouched : IfErr result (λ why. (IsDiskFault why → ⊥) → new ≡ old)

-- where a low mark and a run of so many pages fit behind the list, it stays in its place: no list is written anew
abbrev pub StaysInPlace : {D : Type 0} → Side D → ℕ → Side D → Type 0
StaysInPlace old count new = HasRoomFor old.log count → new.log.area.log.place ≡ old.log.area.log.place

-- the list has one record more, a run of so many pages
abbrev pub AddsRun : {D : Type 0} → Side D → ℕ → Side D → Type 0
AddsRun old count new = new.log.area.log.gate ≡ old.log.area.log.gate + run_length old.log.version count + 5

-- where both fit and the batch's low is not above the lowest mapping, the run is all that is written: no low mark
abbrev pub WritesNoMark : {D : Type 0} → Side D → Batch → Side D → Type 0
WritesNoMark old batch new = batch.low ≤ old.levels.low → HasRoomFor old.log (length batch.images)
    → AddsRun old (length batch.images) new

-- What entering asks of a batch: some captures, up to 64, of pages of the store, of which no more than there are slots
-- are kept with the others, up to the most captures.
pub record IsEntering {D : Type 0} (side : Side D) (batch : Batch) : Type 0 where
  pub some : 1 ≤ length batch.images
  pub few : length batch.images ≤ BATCH
  pub room : side.held + length batch.images ≤ side.levels.low + side.log.capacity
  pub end : side.held + length batch.images ≤ MAX_CAPTURES
  pub pages : AllByRecursion (λ page. page < side.log.page_count) (pages_of batch.images)

-- The side behind a call that maps these pages behind the others. A call that was refused for want of memory changed
-- nothing, and one whose device failed left them in memory alone.
pub record MapsBehind {D : Type 0} (old : Side D) (pages : List ℕ) (result : Result (Unit {0}) Refusal)
    (new : Side D) : Type 0 where
  pub held : OnOk result (new.held ≡ old.held + length pages)
  pub levels : OnOk result (new.levels ≡ push old.levels pages)
  pub going : OnOk result (new.log.area.fault ≡ None)
  pub left : OnErr result (new.held ≡ old.held)
  pub untouched : IfErr result (λ why. (IsDiskFault why → ⊥) → new ≡ old)

-- What laying and entering ask of a batch: 1 to 64 captures, which go on behind those entered, of which no more than
-- there are slots are kept with it, up to the most captures, and of pages of the store.
pub record IsNextBatch {D : Type 0} (side : Side D) (batch : Batch) : Type 0 where
  pub some : 1 ≤ length batch.images
  pub few : length batch.images ≤ BATCH
  pub first : batch.first ≡ side.held
  pub low : batch.low ≤ batch.first
  pub room : batch_end batch ≤ max batch.low side.levels.low + side.log.capacity
  pub end : batch_end batch ≤ MAX_CAPTURES
  pub pages : AllByRecursion (λ page. page < side.log.page_count) (pages_of batch.images)

-- The side behind a call that enters a batch. Its log goes on, but for a fault.
pub record EntersBatch {D : Type 0} (old : Side D) (batch : Batch) (result : Result (Unit {0}) Refusal)
    (new : Side D) : Type 0 where
  pub held : OnOk result (new.held ≡ batch_end batch)
  pub going : MatchResult result (λ _. new.log.area.fault ≡ None) (λ why. (IsDiskFault why → ⊥)
      → new.log.area.fault ≡ None)
  pub left : OnErr result (new.held ≡ old.held)

-- Where memory ran out, the side is the vault's as before, or as it is trimmed to the batch's low.
abbrev pub TrimmedAtMost : {D : Type 0} → (D → Type 0) → (D → State) → Side D → Vault → Batch
    → Result (Unit {0}) Refusal → Type 0
TrimmedAtMost is_honest state new vault batch result = IfErr result (λ why. (IsDiskFault why → ⊥)
    → IsMapSide is_honest state new vault ⊎ IsMapSide is_honest state new (trimmed vault batch.low))

-- A call of the side makes the vault `done`, or `failed` where a call of its device failed. A crash at any moment
-- leaves what its failing leaves.
pub record Moves {D : Type 0} (is_honest : D → Type 0) (remembers : Type 0) (state : D → State)
    (clock : D → Clock) (old new : Side D) (done failed : Vault) (result : Result (Unit {0}) Refusal) : Type 0 where
  pub steps : OnOk result (IsMapSide is_honest state new done)
  pub fails : IfErr result (λ why. IsDiskFault why → IsMapSide is_honest state new failed)
  pub any_moment : is_honest old.disk → LeavesOnly remembers (clock old.disk) (clock new.disk)
      (ListsMaplogOf old.log failed)

-- the vault with these mappings
abbrev pub with_mappings : Vault → Mappings → Vault
with_mappings vault mappings = record vault { mappings = mappings }

-- the vault that stopped when its device may have come to hold one of these
abbrev pub stopped_with : Vault → List Maplog → Vault
stopped_with vault others = record vault { others = others; stopped = true }
