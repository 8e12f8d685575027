-- What follows from these definitions, in the words of the subject.
use Rattle.std.specs.Prelude.{◌↔◌, ◌≡◌, ◌≤◌, ◌<◌, ◌^◌, true, ℕ, List, length}
use Rattle.history.specs.declared.entry.Base.{Base}
use Rattle.history.specs.declared.entry.Change.{Change}
use Rattle.history.specs.declared.log.Version.{Version}
use Rattle.history.specs.History.{base_after}
use Rattle.history.specs.Marks.{oldest, newest, is_retained}
use Rattle.history.specs.Right.{IsBase}
use Rattle.records.specs.declared.entry.Entry.{Entry}
use Rattle.records.specs.declared.entry.Entry.TheVariants as entries
use Rattle.records.specs.Entries.{base_bytes, BaseFits, entry_bytes, EntryFits, IsNumberedFrom}
use Rattle.gate_log.specs.Bodies.{BreaksBehind}
use Rattle.records.specs.Log.{IsLog}
use Rattle.records.specs.Maplog.{IsMaplog}

-- bytes are those of one record
abbrev pub OneEntry : Type 0
OneEntry = (version : Version) (entry other : Entry) → EntryFits version entry → EntryFits version other →
    entry_bytes version entry ≡ entry_bytes version other → entry ≡ other

-- a record that is right where it is a base
abbrev pub IsRightBase : Entry → Type 0
IsRightBase (entries.Base base) = IsBase base
IsRightBase (entries.Change change) = Unit {0}

-- such a record takes less than 2^32 bytes
abbrev pub RecordsAreShort : Type 0
RecordsAreShort = (version : Version) (entry : Entry) → EntryFits version entry → IsRightBase entry →
    length (entry_bytes version entry) < 2 ^ 32

-- and that of a base at most 5,046,311
abbrev pub BasesAreShort : Type 0
BasesAreShort = (version : Version) (base : Base) → BaseFits version base → IsBase base →
    length (base_bytes version base) ≤ 5046311

-- no number is left out from the oldest retained snapshot to the newest
abbrev pub IsNumbered : Base → Type 0
IsNumbered base = IsNumberedFrom (oldest base.marks) base.marks

-- a right change leaves no number out
abbrev pub NumberedStays : Type 0
NumberedStays = (base : Base) (change : Change) → IsNumbered base → IsNumbered (base_after base change)

-- where no number is left out the retained snapshots are those from the oldest to the newest
abbrev pub RetainedBetween : Type 0
RetainedBetween = (base : Base) (number : ℕ) → IsBase base → IsNumbered base → (is_retained number base.marks ≡ true)
    ↔ ((oldest base.marks ≤ number) × (number ≤ newest base.marks))

-- a list of bodies stands for one value at most, or breaks behind one front at most, and not both
pub record IsReadOneWay {X : Type 0} (StandsFor : List (List ℕ) → X → Type 0) : Type 0 where
  pub one_value : (bodies : List (List ℕ)) (x y : X) → StandsFor bodies x → StandsFor bodies y → x ≡ y
  pub one_front : (bodies front other : List (List ℕ)) → BreaksBehind StandsFor bodies front →
      BreaksBehind StandsFor bodies other → front ≡ other
  pub not_both : (bodies front : List (List ℕ)) (x : X) → StandsFor bodies x → BreaksBehind StandsFor bodies front → ⊥

-- so it is with the log
abbrev pub LogIsReadOneWay : Type 0
LogIsReadOneWay = (version : Version) → IsReadOneWay (IsLog version)

-- and with the Maplog beside any log
abbrev pub MaplogIsReadOneWay : Type 0
MaplogIsReadOneWay = (version : Version) (page_count capacity : ℕ) → IsReadOneWay (IsMaplog version page_count capacity)
