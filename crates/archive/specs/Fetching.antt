-- How an archive is opened from its devices.
use Rattle.std.specs.Prelude.{◌≡◌, ◌⊎◌, ◌+◌, ◌*◌, ◌<◌, ◌≤◌, ℕ, None, List, [], ◌∷◌, length, take, ◌-◌}
use Rattle.disk_model.specs.Disk.{State}
use Rattle.disk_model.specs.Moments.{Clock}
use Rattle.disk_model.specs.Runs.{SameDevice, WritesNothing}
use Rattle.disk_model.specs.Sizes.{maplog_half, pagelog_bytes}
use Rattle.retro_base.specs.declared.device.Device.TheVariants.{Maplog, Pagelog}
use Rattle.retro_base.specs.declared.refusal.Refusal.{Refusal}
use Rattle.gate_log.specs.Cause.{IsReadRefusal}
use Rattle.area_log.specs.Listed.{closed_gate, DeviceStandsFor, WrongSize}
use Rattle.block_file.specs.Blocks.{block_at}
use Rattle.history.specs.declared.log.Version.{Version}
use Rattle.records.specs.Maplog.{IsMaplog}
use Rattle.skippy.specs.Mappings.{Mappings, end_of}
use Rattle.map_log.specs.Cause.{NotMaplog}
use Rattle.map_log.specs.Log.{IsFetched}
use Rattle.replay.specs.Opened.{Contents}
use Rattle.race_model.specs.Reopened.{opened_vault}
use Rattle.archive.specs.Archive.{IsVault, Running}
use Rattle.archive.specs.Side.{Side}

-- the device lists more mappings than there are slots, and is told with its closed gate
pub record TooMany (version : Version) (page_count capacity : ℕ) (bytes : List ℕ) (broken : ℕ) : Type 0 where
  pub mappings : Mappings
  pub stands : DeviceStandsFor (maplog_half capacity) (IsMaplog version page_count capacity) bytes mappings
  pub many : capacity < length mappings.pages
  pub told : broken ≡ closed_gate stands

-- a device of so many bytes is refused at that place: it is no Maplog, or lists too many mappings
abbrev pub NotAnArchive : Version → ℕ → ℕ → ℕ → Type 0 → List ℕ → ℕ → Type 0
NotAnArchive version page_count capacity extent is_honest bytes broken =
    NotMaplog version page_count capacity extent is_honest bytes broken
    ⊎ ((extent ≡ 2 * maplog_half capacity) × (is_honest → TooMany version page_count capacity bytes broken))

-- the device came back: nothing was written on it
pub record ComesBack {D : Type 0} (extent : D → ℕ) (is_honest : D → Type 0) (remembers : Type 0)
    (state : D → State) (clock : D → Clock) (old new : D) : Type 0 where
  pub same : SameDevice extent is_honest old new
  pub quiet : is_honest old → WritesNothing remembers state clock old new

-- A refused opening: the Pagelog has another size, or a sync of it failed; or else memory ran out, a call of the Maplog
-- failed, or it is refused for its bytes. The counts of faults are those before and behind the opening.
abbrev pub IsRefusedFetch : {D : Type 0} → (D → ℕ) → (D → Type 0) → (D → State) → (D → ℕ) → Version → ℕ → ℕ → D → D → D
    → D → Refusal → Type 0
IsRefusedFetch extent is_honest state faults version page_count capacity pagelog maplog pagelog_after maplog_after why =
    (IsReadRefusal (WrongSize (pagelog_bytes capacity) (extent pagelog)) Pagelog
    (faults pagelog) (faults pagelog_after) why × (faults maplog_after ≡ faults maplog))
    ⊎ ((extent pagelog ≡ pagelog_bytes capacity) × (faults pagelog_after ≡ faults pagelog)
    × IsReadRefusal (NotAnArchive version page_count capacity (extent maplog) (is_honest maplog) (state maplog).seen)
    Maplog (faults maplog) (faults maplog_after) why)

-- An archive that was opened of these sizes: it goes on, all mappings in memory are entered, no slot is laid beyond
-- them, and it knows where the closed gate behind their list stands. It is each opened vault of these mappings, and of
-- slots as an honest device has them.
pub record IsOpened {D : Type 0} (is_honest : D → Type 0)
    (state : D → State) (version : Version) (page_count capacity : ℕ) (maplog : D) (archive : Running D) : Type 0 where
  pub log : IsFetched version page_count capacity archive.side.log
  pub held : archive.side.held ≡ end_of archive.side.levels
  pub few : length archive.side.levels.pages ≤ capacity
  pub slots : archive.pagelog.blocks ≡ capacity
  pub laid : archive.laid ≡ archive.side.held
  pub going : archive.first_fault ≡ None
  pub mappings : is_honest maplog → DeviceStandsFor (maplog_half capacity) (IsMaplog version page_count capacity)
      (state maplog).seen archive.side.levels
  pub closed : (honest : is_honest maplog) → archive.side.log.area.log.place + archive.side.log.area.log.gate
      ≡ closed_gate (mappings honest)
  pub vault : (contents : Contents) → contents.mappings ≡ archive.side.levels
      → (is_honest archive.pagelog.disk → (slot : ℕ) → contents.slots slot
      ≡ block_at (state archive.pagelog.disk).seen slot)
      → IsVault is_honest state archive (opened_vault version contents)

-- number and page of each mapping from a number on
abbrev pub numbered_from : ℕ → List ℕ → List (ℕ × ℕ)
numbered_from first [] = []
numbered_from first (page ∷ pages) = (first, page) ∷ numbered_from (first + 1) pages

-- those of the captures that are entered
abbrev pub kept_mappings : {D : Type 0} → Side D → List (ℕ × ℕ)
kept_mappings side = numbered_from side.levels.low (take (side.held - side.levels.low) side.levels.pages)
