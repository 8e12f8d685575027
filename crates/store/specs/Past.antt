-- What a reader of the past has, and what it is given.
use Rattle.std.specs.Prelude.{◌≡◌, ◌≤◌, ◌<◌, max, true, false, ℕ, Bool, List, [], length, Some, Result, Err, IfErr}
use Rattle.std.specs.Prelude.{MatchResult, OnOk}
use Rattle.atomic_table.specs.Seated.{TableId}
use Rattle.disk_model.specs.Disk.{State}
use Rattle.disk_model.specs.Moments.{Clock}
use Rattle.disk_model.specs.Runs.{OnlyReads}
use Rattle.retro_base.specs.declared.device.Device.{Device}
use Rattle.retro_base.specs.declared.refusal.Refusal.{Refusal}
use Rattle.retro_base.specs.declared.who.Who.{Who}
use Rattle.retro_base.specs.declared.refusal.Refusal.TheVariants.{DiskFault, OutOfMemory}
use Rattle.history.specs.History.{History, captures, pages_as_of}
use Rattle.history.specs.Journal.{after_journal}
use Rattle.history.specs.Lines.{base_of, pinned_by}
use Rattle.history.specs.Marks.{is_retained, start_of}
use Rattle.history.specs.Writes.{is_among, pages_of}
use Rattle.history.specs.Sound.{IsSound, pins_of}
use Rattle.journal_book.specs.declared.work.Look.{Look}
use Rattle.journal_book.specs.declared.work.Work.TheVariants.{Looking}
use Rattle.page_table.specs.Table.{IsFirstMet, Table}
use Rattle.race_model.specs.declared.fault.Fault.{Fault}
use Rattle.race_model.specs.Desk.{capacity_of}
use Rattle.race_model.specs.Fits.{VaultFits}
use Rattle.race_model.specs.Reading.{in_slot}
use Rattle.race_model.specs.Vault.{Vault}
use Rattle.skippy.specs.Bound.{different, scan_bound}
use Rattle.skippy.specs.Mappings.{Mappings, end_of, first_in, pages_in}
use Rattle.skippy.specs.Steps.{AddsAtMost}
use Rattle.archive.specs.Archive.{Running}
use Rattle.store_core.specs.declared.copying.Peeked.{Peeked}
use Rattle.turn.specs.Faults.{fault_times}
use Rattle.turn.specs.Seats.{held, mine, opening, seen}
use Rattle.store.specs.declared.desk_side.DeskSide.{DeskSide}
use Rattle.store.specs.declared.start.Start.{Start}
use Rattle.store.specs.Calls.{PeekDoes}
use Rattle.store.specs.Seats.{Sat, Visited, VisitedVault, Visits}
use Rattle.store.specs.Start.{IsAbove, IsOpenedTo, Origin, opened_base}

-- a look of the seat, or of the one that it helps, pins the snapshot
pub record IsPinnedBy {D : Type 0} (s : Sat D) (snapshot : ℕ) : Type 0 where
  pub look : Look
  pub there : (mine s).work ≡ Some (Looking look)
  pub pinned : is_among snapshot look.pins ≡ true

-- The journal that the seat has seen is sound, and the snapshot is retained behind it.
pub record IsRetainedBy {D : Type 0} (s : Sat D) (snapshot : ℕ) : Type 0 where
  pub sound : (start : Start D) → opening s ≡ Some start → IsSound (opened_base start) (seen s)
  pub retained : (start : Start D) → opening s ≡ Some start →
      is_retained snapshot (base_of (opened_base start) (seen s)).marks ≡ true

-- all captures of a history, as mappings
abbrev pub all_mapped : History → Mappings
all_mapped history = record { low = 0; pages = pages_of (captures history) }

-- The table has the first captures of a history that it covers, and covers no more than there are.
pub record IsTableIn (history : History) (table : Table) : Type 0 where
  pub met : IsFirstMet table (all_mapped history)
  pub within : table.covered ≤ max table.start (length (captures history))

-- the table of a snapshot that starts there, which covers nothing yet
abbrev pub new_table : ℕ → Table
new_table start = record { start = start; covered = start; entries = [] }

module _ {D : Type 0} (is_honest : D → Type 0) (state : D → State) where
  -- The table is one of the snapshot's, behind the journal that the seat has seen, and covers no more than it has
  -- seen the vault hold.
  pub record IsTableOf (s : Sat D) (snapshot : ℕ) (table : Table) : Type 0 where
    pub start : (start : Start D) → opening s ≡ Some start →
        table.start ≡ start_of snapshot (base_of (opened_base start) (seen s)).marks
    pub held : table.covered ≤ max table.start (held s)
    pub among : (start : Start D) (origin : Origin) → opening s ≡ Some start →
        IsOpenedTo is_honest state start origin → IsTableIn (after_journal origin.history (seen s)) table

  -- The page is as of the snapshot behind the journal that the seat has then seen, where the devices of the pages
  -- and of the slots are honest.
  abbrev pub IsPastOf : Sat D → ℕ → ℕ → List ℕ → Type 0
  IsPastOf s snapshot page bytes = (start : Start D) (origin : Origin) → opening s ≡ Some start →
      IsOpenedTo is_honest state start origin →
      is_honest start.core.value.desk.pool.file.disk → is_honest start.archive.value.pagelog.disk →
      bytes ≡ pages_as_of (after_journal origin.history (seen s)) snapshot page

  -- The seat looks for a page as of a snapshot that an item of its session pins, by this table.
  pub record IsSeeking (s : Sat D) (snapshot : ℕ) (table : Table) : Type 0 where
    pub start : Start D
    pub origin : Origin
    pub opening_is : opening s ≡ Some start
    pub opened : IsOpenedTo is_honest state start origin
    pub who : Who
    pub own : who.session ≡ s.number
    pub pinned : is_among snapshot (pinned_by who (pins_of (opened_base start) [] (seen s))) ≡ true
    pub table_is : IsTableOf s snapshot table

  -- what the vault found below a number, of which the seat has then seen the journal
  pub record FoundIn (s : Sat D) (start : Start D) (origin : Origin) (from upto page : ℕ) (before after : List ℕ)
      (result : Result Bool Fault) : Type 0 where
    pub vault : Vault
    pub fits : is_honest start.core.value.desk.pool.file.disk →
        VaultFits (after_journal origin.history (seen s)) origin.floor vault
    pub held_is : upto ≤ end_of vault.mappings
    pub bytes : is_honest start.archive.value.pagelog.disk →
        OnOk result (after ≡ in_slot vault (capacity_of origin.history) before (first_in vault.mappings from upto page))

  pub record FindsIn (old new : Sat D) (snapshot : ℕ) (table next : Table) (upto page : ℕ) (before after : List ℕ)
      (result : Result Bool Fault) : Type 0 where
    pub table_is : IsTableOf new snapshot next
    pub sound : (start : Start D) → opening old ≡ Some start → IsSound (opened_base start) (seen new)
    pub retained : (start : Start D) → opening old ≡ Some start →
        is_retained snapshot (base_of (opened_base start) (seen new)).marks ≡ true
    pub found : (start : Start D) (origin : Origin) → opening old ≡ Some start →
        IsOpenedTo is_honest state start origin → FoundIn new start origin table.start upto page before after result

-- memory ran out, where the table covered fewer captures than were asked for, or a read of a device failed, of which
-- the seat was told
abbrev pub IsPastCause : {D : Type 0} → Sat D → ℕ → ℕ → Refusal → Type 0
IsPastCause s covered upto OutOfMemory = covered < upto
IsPastCause s covered upto (DiskFault d c) = 0 < fault_times d c (mine s).faults
IsPastCause s covered upto why = ⊥

-- no write failed
abbrev pub IsPastRefusal : {D : Type 0} → Sat D → ℕ → ℕ → Fault → Type 0
IsPastRefusal s covered upto fault = (fault.wrote ≡ false) × IsPastCause s covered upto fault.why

-- a fault that it tells is new since the opening
abbrev pub IsNewFault : {D : Type 0} → (D → ℕ) → Sat D → Fault → Type 0
IsNewFault {D} faults s fault = (start : Start D) (d : Device) (c : ℕ) → opening s ≡ Some start
    → fault.why ≡ DiskFault d c → IsAbove faults start d c

module _ {D : Type 0} (is_honest : D → Type 0) (state : D → State) (faults : D → ℕ) (z : TableId) (covered : ℕ) where
  -- A visit to the desk told below which number captures are known to be there, and so the read was refused, by a table
  -- that covered those below another.
  pub record RefusesPast (fault : Fault) (old new : Sat D) : Type 0 where
    pub asked : Sat D
    pub before : DeskSide D
    pub after : DeskSide D
    pub visited : Visited is_honest state faults z old asked before after
    pub refused : IsPastRefusal new covered before.core.desk.queue.first fault

module _ {D : Type 0} (is_honest : D → Type 0) (state : D → State) (faults : D → ℕ) (z : TableId) (remembers : Type 0)
    (clock : D → Clock)
  where
    -- In one visit to the vault a page was looked up: the archive is as it was, but for reads of its Pagelog.
    pub record LooksUp (old new : Sat D) : Type 0 where
      pub before : Running D
      pub after : Running D
      pub visited : VisitedVault is_honest state faults z old new before after
      pub same : after ≡ record before { pagelog = after.pagelog }
      pub quiet : is_honest before.pagelog.disk
          → OnlyReads remembers state clock before.pagelog.disk after.pagelog.disk

    module _ (covered before after : ℕ) where
      -- In such a visit no entry of the Maplog's levels was read where the table covered the mappings below a number;
      -- else no more than the bound of a scan of them from what it covered on.
      pub record ScansBelow (upto : ℕ) (old new : Sat D) : Type 0 where
        pub looks : LooksUp old new
        pub none : upto ≤ covered → after ≡ before
        pub cost : AddsAtMost (scan_bound covered upto (different (pages_in looks.before.side.levels covered upto)))
            before after

      -- A read of the past, by a table that covered those below a number. The desk told in one visit below which number
      -- captures are known to be there, and the page was looked up below that in a visit to the vault; or the desk
      -- refused, and nothing followed. A refusal is one where so many are known to be there.
      pub record LooksBack (snapshot page : ℕ) (out : List ℕ) (result : Result (Unit {0}) Fault) (old new : Sat D)
          : Type 0 where
        pub told : Result Peeked Refusal
        pub between : List ℕ
        pub middle : Sat D
        pub asks : Visits is_honest state faults z
            (PeekDoes is_honest state faults remembers clock page snapshot out between told) old middle
        pub finds : MatchResult told (λ peeked. ScansBelow peeked.acked middle new)
            (λ why. (new ≡ middle) × (after ≡ before) × (result ≡ Err (record { why = why; wrote = false })))
        pub refused : IfErr result (IsPastRefusal new covered asks.before.core.desk.queue.first)
