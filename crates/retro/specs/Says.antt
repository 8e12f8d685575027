-- The one-line texts of the program, what it puts into its sink, and how a command ends.
use Rattle.std.specs.Prelude.{◌≡◌, ◌≢◌, ◌⊎◌, ◌<◌, ◌≤◌, ◌++◌, ◌-◌, ◌^◌, ◌∷◌, ◌==◌, ℕ, IsTrue, List, [], length, take}
use Rattle.std.specs.Prelude.{codes, Result, Ok, Err}
use Rattle.std.specs.Fmt.{decimal}
use Rattle.std.specs.List.{list_any}
use Rattle.feeds.specs.Feeds.{added}
use Rattle.retro_base.specs.Device.{device_name}
use Rattle.retro_base.specs.declared.device.Device.{Device}
use Rattle.retro_base.specs.declared.refusal.Refusal.{Refusal}
use Rattle.retro_base.specs.declared.refusal.Refusal.TheVariants.{DiskFault, NotAStore, OutOfMemory}
use Rattle.session.specs.Line.{line}
use Rattle.retro.specs.Seen.{HasFailed, IsSteady, Seen}
use Rattle.retro.specs.declared.saying.Status.{Status}
use Rattle.retro.specs.declared.saying.Status.TheVariants as statuses

-- the exit status of a run that ended so
abbrev pub number_of : Status → ℕ
number_of statuses.Done = 0
number_of statuses.BadWords = 2
number_of statuses.BadScript = 3
number_of statuses.SourceFault = 4
number_of statuses.SinkFault = 5
number_of statuses.DiskFault = 6
number_of statuses.NotAStore = 7
number_of statuses.OutOfMemory = 8
number_of statuses.BadSizes = 9

-- the exit statuses
abbrev pub IsStatus : ℕ → Type 0
IsStatus number = IsTrue (list_any (λ one. one == number) (0 ∷ 2 ∷ 3 ∷ 4 ∷ 5 ∷ 6 ∷ 7 ∷ 8 ∷ 9 ∷ []))

-- a command on a store may end so
abbrev pub IsOfStores : Status → Type 0
IsOfStores statuses.BadWords = ⊥
IsOfStores statuses.BadScript = ⊥
IsOfStores statuses.SourceFault = ⊥
IsOfStores statuses.BadSizes = ⊥
IsOfStores status = Unit {0}

-- a run of a script may end so
abbrev pub IsOfKept : Status → Type 0
IsOfKept statuses.BadWords = ⊥
IsOfKept statuses.BadSizes = ⊥
IsOfKept status = Unit {0}

abbrev pub bad_words_line : List ℕ
bad_words_line = line (codes "retro: bad words")

abbrev pub bad_sizes_line : List ℕ
bad_sizes_line = line (codes "retro: bad sizes")

abbrev pub source_fault_line : List ℕ
source_fault_line = line (codes "retro: source fault")

abbrev pub out_of_memory_line : List ℕ
out_of_memory_line = line (codes "retro: out of memory")

abbrev pub bad_script_line : ℕ → List ℕ
bad_script_line number = line (codes "retro: bad script at line " ++ decimal number)

-- a device between words, and a number
abbrev pub device_line : List ℕ → Device → List ℕ → ℕ → List ℕ
device_line words device between number = line (words ++ (device_name device ++ (between ++ decimal number)))

abbrev pub disk_fault_line : Device → ℕ → List ℕ
disk_fault_line device count = device_line (codes "retro: disk fault on ") device (codes " ") count

abbrev pub not_a_store_line : Device → ℕ → List ℕ
not_a_store_line device place = device_line (codes "retro: not a store, ") device (codes " at ") place

-- the sink holds what it held, and a front of the text
abbrev pub HoldsFront : Seen → List ℕ → Type 0
HoldsFront sink text = (n : ℕ) × (n ≤ length text) × (sink.bytes_new ≡ added sink.bytes_old (take n text))

-- the sink holds what it held and the text; or a front of the text, and a call of it failed
abbrev pub Says : Seen → List ℕ → Type 0
Says sink text = (sink.bytes_new ≡ added sink.bytes_old text) ⊎ (HasFailed sink × HoldsFront sink text)

-- memory ran out: that line was said, with status 8
abbrev pub LacksMemory : Seen → ℕ → Type 0
LacksMemory sink status = (status ≡ 8) × Says sink out_of_memory_line

-- the line was said, with that status; or memory ran out
abbrev pub Tells : Seen → List ℕ → ℕ → ℕ → Type 0
Tells sink text own status = ((status ≡ own) × Says sink text) ⊎ LacksMemory sink status

-- The text was written, with status 0; or a front of it, with status 5, and a call of the sink failed; or memory ran
-- out.
abbrev pub Writes : Seen → List ℕ → ℕ → Type 0
Writes sink text status =
    ((status ≡ 0) × (sink.bytes_new ≡ added sink.bytes_old text) × IsSteady sink)
    ⊎ (((status ≡ 5) × HoldsFront sink text × HasFailed sink) ⊎ LacksMemory sink status)

-- a text of this kind was written, or there was none for want of memory
abbrev pub WritesOne : Seen → (List ℕ → Type 0) → ℕ → Type 0
WritesOne sink IsIt status = ((text : List ℕ) × IsIt text × Writes sink text status) ⊎ LacksMemory sink status

-- why a command found no store, or not what is in it
abbrev pub IsNoStore : Refusal → Type 0
IsNoStore (DiskFault device count) = Unit {0}
IsNoStore (NotAStore device place) = Unit {0}
IsNoStore OutOfMemory = Unit {0}
IsNoStore refusal = ⊥

-- A command found nothing to write: a fault of a device is told with status 6, and bytes that are no store's with
-- status 7.
abbrev pub Refuses : Seen → Refusal → ℕ → Type 0
Refuses sink (DiskFault device count) status = Tells sink (disk_fault_line device count) 6 status
Refuses sink (NotAStore device place) status = Tells sink (not_a_store_line device place) 7 status
Refuses sink OutOfMemory status = LacksMemory sink status
Refuses sink refusal status = ⊥

-- how a command ends after what it found
abbrev pub Ends : {A : Type 0} → Seen → (A → List ℕ) → Result A Refusal → ℕ → Type 0
Ends sink text (Ok found) status = Writes sink (text found) status
Ends sink text (Err refusal) status = Refuses sink refusal status

-- ---- what a status tells

-- of the sink: 5 that a call of it failed, and 0 that none did
pub record SinkTold (sink : Seen) (status : ℕ) : Type 0 where
  pub fault : status ≡ 5 → HasFailed sink
  pub steady : status ≡ 0 → IsSteady sink
  pub no_fault : IsSteady sink → sink.faults_old < 2 ^ 64 - 1 → status ≢ 5

-- The status of a command on a store that came to this, where memory did not run out: that of what it found; 6 where a
-- call of the cabinet, or of a device, failed; and 7 where the bytes are no store's.
abbrev pub IsStatusOf : {A : Type 0} → (A → ℕ → Type 0) → Result A Refusal → ℕ → Type 0
IsStatusOf Is (Ok found) status = Is found status
IsStatusOf Is (Err (DiskFault device count)) status = status ≡ 6
IsStatusOf Is (Err (NotAStore device place)) status = status ≡ 7
IsStatusOf Is (Err why) status = ⊥

-- what was written of the text: all of it with status 0, and a front with status 5
abbrev pub WritesBy : Seen → List ℕ → ℕ → Type 0
WritesBy sink text status =
    ((status ≡ 0) × (sink.bytes_new ≡ added sink.bytes_old text)) ⊎ ((status ≡ 5) × HoldsFront sink text)

-- What the status of a command on a store tells that came to one of these and writes that text. None but these comes.
pub record HasCausesOn {A : Type 0} (those : List ℕ) (Came : Result A Refusal → Type 0) (text : A → List ℕ)
    (sink : Seen) (status : ℕ) : Type 0 where
  pub statuses : IsTrue (list_any (λ one. one == status) those)
  pub sink_told : SinkTold sink status
  pub came : status ≢ 8
      → (result : Result A Refusal) × Came result × IsStatusOf (λ found. WritesBy sink (text found)) result status
