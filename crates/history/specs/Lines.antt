-- What the lines of a journal tell, line by line.
use Rattle.std.specs.Prelude.{◌≡◌, ◌<◌, ◌-◌, ◌^◌, ◌+◌, ◌==◌, ◌&&◌, ℕ, Bool, true, false, not, List, []}
use Rattle.std.specs.Prelude.{◌∷◌, ◌++◌, length, map, filter, drop, Option, Some, None, if◌then◌else◌}
use Rattle.std.specs.Option.{option_or}
use Rattle.std.specs.List.{AllByRecursion, list_any}
use Rattle.retro_base.specs.declared.device.Device.{Device}
use Rattle.retro_base.specs.declared.device.Device.TheVariants.{Log, Pages, Pagelog, Maplog, Cabinet}
use Rattle.retro_base.specs.declared.who.Who.{Who}
use Rattle.history.specs.declared.entry.Base.{Base}
use Rattle.history.specs.declared.entry.Change.{Change}
use Rattle.history.specs.declared.journal.FailedCall.{FailedCall}
use Rattle.history.specs.declared.journal.FailedCall.TheVariants.{Append, Read, Write}
use Rattle.history.specs.declared.journal.Line.{Line}
use Rattle.history.specs.declared.journal.What.{What}
use Rattle.history.specs.declared.journal.What.TheVariants.{Began, Done, Looked, LookedAll, Fault}
use Rattle.history.specs.declared.stop.Stop.{Stop}
use Rattle.history.specs.Journal.{changes_of}
use Rattle.history.specs.History.{bases_after}
use Rattle.history.specs.Marks.{oldest, newest}
use Rattle.history.specs.Sound.{Pin, same_item}
use Rattle.history.specs.Writes.{pages_of, is_among}

-- what the log says behind a journal, from what it said at the opening on
abbrev pub base_of : Base → List Line → Base
base_of base lines = bases_after base (changes_of base lines)

-- the oldest and the newest snapshot behind a journal
abbrev pub horizon_of : Base → List Line → ℕ × ℕ
horizon_of base lines = (oldest (base_of base lines).marks, newest (base_of base lines).marks)

-- the lines of one session, in order
abbrev pub lines_of : ℕ → List Line → List Line
lines_of session lines = filter (λ line. line.who.session == session) lines

-- the snapshots that the open looks of one item keep from being dropped
abbrev pub pinned_by : Who → List Pin → List ℕ
pinned_by who pins = map (λ pin. pin.snapshot) (filter (λ pin. same_item pin.who who) pins)

-- how many page images a line holds
abbrev pub images_of : What → ℕ
images_of (Done label writes) = length writes
images_of _ = 0

abbrev pub images_in : List Line → ℕ
images_in [] = 0
images_in (line ∷ lines) = images_of line.what + images_in lines

-- the items that began, or looked, and have no end yet; the last to begin first
abbrev pub begins : What → Bool
begins Began = true
begins (Looked snapshot) = true
begins LookedAll = true
begins _ = false

abbrev pub open_behind : List Who → Line → List Who
open_behind items line =
    if begins line.what then line.who ∷ items else filter (λ who. not (same_item who line.who)) items

abbrev pub open_from : List Who → List Line → List Who
open_from items [] = items
open_from items (line ∷ lines) = open_from (open_behind items line) lines

abbrev pub open_in : List Line → List Who
open_in lines = open_from [] lines

-- whether an item is among these
abbrev pub is_open : Who → List Who → Bool
is_open who items = list_any (λ other. same_item other who) items

-- whether a committed item writes the page
abbrev pub changes_page : ℕ → What → Bool
changes_page page (Done label writes) = is_among page (pages_of writes)
changes_page page _ = false

-- the item of a line that is another one and changes the page
abbrev pub change_by : Who → ℕ → Line → Option Who
change_by who page line = if changes_page page line.what && not (same_item line.who who) then Some line.who else None

-- the other item that changed the page last in these lines
abbrev pub last_change : Who → ℕ → List Line → Option Who
last_change who page [] = None
last_change who page (line ∷ lines) = option_or (last_change who page lines) (change_by who page line)

-- the other item that changed the page last behind so many lines
abbrev pub changed_since : Who → ℕ → ℕ → List Line → Option Who
changed_since who page place lines = last_change who page (drop place lines)

abbrev pub same_device : Device → Device → Bool
same_device Log Log = true
same_device Pages Pages = true
same_device Pagelog Pagelog = true
same_device Maplog Maplog = true
same_device Cabinet Cabinet = true
same_device _ _ = false

-- a fault of a device: the session that met it, and its count
pub record DeviceFault : Type 0 where
  pub session : ℕ
  pub count : ℕ

-- the fault of a device that a line tells, if any
abbrev pub fault_of : Device → Who → What → List DeviceFault
fault_of device who (Fault other count call) =
    if same_device other device then record { session = who.session; count = count } ∷ [] else []
fault_of device who _ = []

-- the faults of a device, in order
abbrev pub faults_of : Device → List Line → List DeviceFault
faults_of device [] = []
faults_of device (line ∷ lines) = fault_of device line.who line.what ++ faults_of device lines

-- A fault has a count of its own, and a greater one than the faults that its session met before. The last value of 64
-- bits is excepted, since counts stay there.
pub record IsNewer (before fault : DeviceFault) : Type 0 where
  pub other : fault.count ≡ before.count → fault.count < 2 ^ 64 - 1 → ⊥
  pub rises : fault.session ≡ before.session → before.count < 2 ^ 64 - 1 → before.count < fault.count

abbrev pub AreNewer : List DeviceFault → Type 0
AreNewer [] = Unit {0}
AreNewer (fault ∷ faults) = AllByRecursion (IsNewer fault) faults × AreNewer faults

-- No two fault lines of a device have one count, and those of a session rise.
abbrev pub FaultsDiffer : List Line → Type 0
FaultsDiffer lines = (device : Device) → AreNewer (faults_of device lines)

-- whether the call was to write, to sync or to append
abbrev pub is_write : FailedCall → Bool
is_write Read = false
is_write Write = true
is_write (Append change) = true

-- the fault of a write or a sync that a line tells, if any
abbrev pub stop_of : What → Option Stop
stop_of (Fault device count call) = if is_write call then Some (record { device = device; count = count }) else None
stop_of _ = None

-- the first such fault
abbrev pub first_stop : List Line → Option Stop
first_stop [] = None
first_stop (line ∷ lines) = option_or (stop_of line.what) (first_stop lines)

-- the change that a line tells to be in doubt, if any: a crash may find its record in the log or not
abbrev pub doubt_of : What → Option Change
doubt_of (Fault device count (Append change)) = Some change
doubt_of _ = None

-- the first such change
abbrev pub doubt_in : List Line → Option Change
doubt_in [] = None
doubt_in (line ∷ lines) = option_or (doubt_of line.what) (doubt_in lines)
