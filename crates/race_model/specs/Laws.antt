-- What holds of every list of steps and every crash.
use Rattle.std.specs.Prelude.{◌≡◌, ◌⊎◌, ◌≤◌, true, false, ℕ, Bool, List, [], map, Contains}
use Rattle.retro_base.specs.declared.limits.TheConstants.{MIN_PAGES, MAX_PAGES, MIN_CAPACITY, MAX_CAPACITY}
use Rattle.history.specs.declared.entry.Change.{Change}
use Rattle.history.specs.declared.log.Version.{Version}
use Rattle.history.specs.Marks.{is_retained}
use Rattle.history.specs.History.{History, now, pages_as_of}
use Rattle.skippy.specs.Mappings.{end_of}
use Rattle.records.specs.Log.{IsLog}
use Rattle.replay.specs.Joined.{AreJoined}
use Rattle.replay.specs.Opened.{Contents}
use Rattle.race_model.specs.Desk.{Doubt, Sure, NewBase, Desk, capacity_of, IsLogOf, ArePagesOf}
use Rattle.race_model.specs.Vault.{Maplog, Vault, Batch, IsMaplogOf, AreSlotsOf, IsSlotOf, LeavesOthers}
use Rattle.race_model.specs.Fits.{HistoryFits, DeskFits, VaultFits, AreOfStore}
use Rattle.race_model.specs.Images.{AreImagesOf, IsSameWorld, OpenInDoubt, HoldsCaptures}
use Rattle.race_model.specs.Invariant.{Fits}
use Rattle.race_model.specs.Machine.{Machine, Step, with_desk, with_vault, changed, change_failed}
use Rattle.race_model.specs.Machine.{written_desk, write_failed, settled, stopped, cut, cut_failed}
use Rattle.race_model.specs.Machine.{laid, lay_failed, entered, enter_failed, trimmed, trim_failed}
use Rattle.race_model.specs.Reopened.{opened_machine, made, Life}

-- a store that was just made is one that fits, whatever its pages and slots hold
abbrev pub MadeFits : Type 0
MadeFits = (version : Version) (page_count capacity : ℕ) (pages slots : ℕ → List ℕ) → MIN_PAGES ≤ page_count
    → page_count ≤ MAX_PAGES → MIN_CAPACITY ≤ capacity → capacity ≤ MAX_CAPACITY
    → Fits (opened_machine version (made version page_count capacity pages slots))

-- whatever belongs together opens to a machine that fits
abbrev pub OpenedFits : Type 0
OpenedFits = (version : Version) (contents : Contents) → AreOfStore contents → Fits (opened_machine version contents)

-- what the bodies of a log stand for opens so, with mappings that belong to it
abbrev pub ReadFits : Type 0
ReadFits = (version : Version) (bodies : List (List ℕ)) (contents : Contents) → IsLog version bodies contents.log
    → AreJoined contents → AreOfStore contents

-- every step keeps what holds
abbrev pub StepsKeep : Type 0
StepsKeep = (machine next : Machine) → Step machine next → Fits machine → Fits next

-- every list of steps keeps it, and so does every crash between
abbrev pub LivesKeep : Type 0
LivesKeep = (first last : Machine) → Life first last → Fits first → Fits last

-- whatever the four devices may hold opens to the history, or to it with the one change whose call failed
abbrev pub ImagesOpen : Type 0
ImagesOpen = (machine : Machine) (contents : Contents) → Fits machine → AreImagesOf machine contents
    → OpenInDoubt contents machine.desk machine.desk.doubt

-- so it is whatever steps there were, and whatever crashes
abbrev pub LivesOpen : Type 0
LivesOpen = (first last : Machine) (contents : Contents) → Life first last → Fits first → AreImagesOf last contents
    → OpenInDoubt contents last.desk last.desk.doubt

-- a crash in a call of the desk and in one of the vault at once leaves what the failings of both leave, one behind the
-- other
abbrev pub BothAtOnce : Type 0
BothAtOnce = (machine first both : Machine) (contents : Contents) → Fits machine → Step machine first → Step first both
    → AreImagesOf both contents → OpenInDoubt contents both.desk both.desk.doubt

-- so it is of the desk alone, beside any image of an archive that holds what the desk needs
abbrev pub DeskImagesOpen : Type 0
DeskImagesOpen = (desk : Desk) (contents : Contents) → DeskFits desk → IsLogOf desk contents.log
    → ArePagesOf desk contents.pages → HoldsCaptures desk.history desk.floor desk.need contents.mappings contents.slots
    → OpenInDoubt contents desk desk.doubt

-- and each image of a vault holds the captures up to its count
abbrev pub VaultImagesHold : Type 0
VaultImagesHold = (history : History) (floor : ℕ) (vault : Vault) (maplog : Maplog) (slots : ℕ → List ℕ)
    → VaultFits history floor vault → IsMaplogOf vault maplog → AreSlotsOf vault slots
    → HoldsCaptures history floor (end_of vault.mappings) maplog.mappings slots

-- together, beside a vault that holds what the desk needs
abbrev pub ApartOpen : Type 0
ApartOpen = (desk : Desk) (vault : Vault) (version : Version) (contents : Contents) → DeskFits desk
    → VaultFits desk.history desk.floor vault → desk.need ≤ end_of vault.mappings → IsLogOf desk contents.log
    → ArePagesOf desk contents.pages
    → IsMaplogOf vault (record { version = version; mappings = contents.mappings }) → AreSlotsOf vault contents.slots
    → OpenInDoubt contents desk desk.doubt

-- each image's Maplog is in records of the vault's version, or of the version of one that a failed call may have left
abbrev pub MaplogInVersion : Type 0
MaplogInVersion = (vault : Vault) (maplog : Maplog) → IsMaplogOf vault maplog
    → (maplog.version ≡ vault.version) ⊎ Contains (map (λ (other : Maplog). other.version) vault.others) maplog.version

-- in the same world each page as of a retained snapshot is the same
abbrev pub SamePast : Type 0
SamePast = (history other : History) (floor : ℕ) → HistoryFits other floor → IsSameWorld history other
    → (snapshot page : ℕ) → is_retained snapshot (now other).base.marks ≡ true
    → pages_as_of history snapshot page ≡ pages_as_of other snapshot page

-- each image of the one machine is one of the other
abbrev pub Covers : Machine → Machine → Type 0
Covers machine other = (contents : Contents) → AreImagesOf machine contents → AreImagesOf other contents

abbrev pub in_version : Version → Desk → Desk
in_version version desk = record desk { version = version }

abbrev pub doubted : Doubt → Desk → Desk
doubted doubt desk = record desk { doubt = doubt }

-- the slots that may differ are loose
abbrev pub LoosensBatch : ℕ → Vault → Batch → (ℕ → Bool) → Type 0
LoosensBatch capacity vault batch loose = (slot : ℕ) → loose slot ≡ false
    → (IsSlotOf capacity batch slot → ⊥) × (vault.loose slot ≡ false)

-- What a call's failing may leave is all that might stand before the call, and all that may stand behind it.
pub record CoversCall (before done failed : Machine) : Type 0 where
  pub early : Covers before failed
  pub late : Covers done failed

-- So it is of each call, where none failed before. A failed entering of a batch covers also what stands between the low
-- mark, or the rewrite, and the batch's run; a failed cut also a base in records of another version.
pub record FailuresCover : Type 0 where
  pub change : (m : Machine) (change : Change) → m.desk.doubt ≡ Sure
      → CoversCall m (with_desk m (changed m.desk change)) (with_desk m (change_failed m.desk change))
  pub write : (m : Machine) (page need : ℕ) (left : List ℕ)
      → CoversCall m (with_desk m (written_desk m.desk page need)) (with_desk m (write_failed m.desk page need left))
  pub settle : (m : Machine) → CoversCall m (with_desk m (settled m.desk)) (with_desk m (stopped m.desk))
  pub cut_in_version : (m : Machine) (version : Version) → m.desk.doubt ≡ Sure
      → Covers (with_desk m (in_version version (cut m.desk)))
      (with_desk m (doubted (NewBase version) (cut_failed m.desk)))
  pub cut : (m : Machine) → m.desk.doubt ≡ Sure
      → CoversCall m (with_desk m (cut m.desk)) (with_desk m (cut_failed m.desk))
  pub lay : (m : Machine) (batch : Batch) (slots left : ℕ → List ℕ) (loose sure : ℕ → Bool)
      → LoosensBatch (capacity_of m.desk.history) m.vault batch loose
      → LeavesOthers (capacity_of m.desk.history) m.vault batch left loose
      → LeavesOthers (capacity_of m.desk.history) m.vault batch slots sure
      → CoversCall m (with_vault m (laid m.vault batch slots sure)) (with_vault m (lay_failed m.vault left loose))
  pub enter : (m : Machine) (batch : Batch) → m.vault.others ≡ []
      → CoversCall m (with_vault m (entered m.vault batch)) (with_vault m (enter_failed m.vault batch))
  pub enter_trimmed : (m : Machine) (batch : Batch) → m.vault.others ≡ []
      → Covers (with_vault m (trimmed m.vault batch.low)) (with_vault m (enter_failed m.vault batch))
  pub trim : (m : Machine) (low : ℕ) → m.vault.others ≡ []
      → CoversCall m (with_vault m (trimmed m.vault low)) (with_vault m (trim_failed m.vault low))
