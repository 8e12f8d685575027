-- What rounds leave: a seat goes to the desk and to the vault, over and over, and leaves at most one line.
use Rattle.std.specs.Prelude.{◌≡◌, ◌<◌, ◌+◌, ◌-◌, ◌/◌, ℕ, Bool, true, false, Some, None, Result, Ok, Err, MatchResult}
use Rattle.atomic_table.specs.Seated.{TableId}
use Rattle.disk_model.specs.Disk.{State}
use Rattle.disk_model.specs.Moments.{Clock}
use Rattle.retro_base.specs.declared.device.Device.{Device}
use Rattle.retro_base.specs.declared.limits.TheConstants.{BATCH, LOG_REGION_BYTES}
use Rattle.retro_base.specs.declared.refusal.Refusal.{Refusal}
use Rattle.retro_base.specs.declared.refusal.Refusal.TheVariants.{DiskFault, NoRoom, NoSuchSnapshot}
use Rattle.retro_base.specs.declared.refusal.Refusal.TheVariants.{OutOfMemory, Pinned, Stopped}
use Rattle.retro_base.specs.declared.who.Who.{Who}
use Rattle.history.specs.declared.journal.FailedCall.TheVariants.{Write}
use Rattle.history.specs.declared.journal.What.TheVariants as what
use Rattle.archive.specs.Archive.{Running}
use Rattle.race_model.specs.declared.fault.Fault.{Fault}
use Rattle.race_model.specs.Vault.{Batch, batch_end}
use Rattle.txn_set.specs.WorksFit.{Closes}
use Rattle.store_core.specs.declared.desk_core.Core.{Core}
use Rattle.turn.specs.Seats.{held, mine, opening, seen}
use Rattle.store.specs.declared.carrying.Carried.{Carried}
use Rattle.store.specs.declared.carrying.Carried.TheVariants.{Entered, Laid, There}
use Rattle.store.specs.declared.start.Start.{Start}
use Rattle.store.specs.Carrying.{Carries, IsBatchIn}
use Rattle.store.specs.RoundCalls.{AckDoes, CutsBelow, DropDoes, GivesUpDrop, NoteDoes, Offers}
use Rattle.store.specs.RoundCalls.{SettleDoes, WriteBackDoes}
use Rattle.store.specs.Seats.{IsReady, Sat, StaysIn, VisitedVault, Visits, Waits}
use Rattle.store.specs.Workers.{IsFreshWorker}

-- A fault of the item finds its line: it closes what the seat has open, or is a worker's, which told none as yet.
pub record MayServe {D : Type 0} (s : Sat D) (who : Who) : Type 0 where
  pub closes : (device : Device) (count : ℕ) → Closes who (what.Fault device count Write) (mine s).work
  pub worker : (mine s).work ≡ None → IsFreshWorker s.number (seen s)

-- the log has no room
abbrev pub IsRoom : Refusal → Type 0
IsRoom (NoRoom needed free) = Unit {0}
IsRoom _ = ⊥

abbrev pub IsNoRoom : {T : Type 0} → Result T Refusal → Type 0
IsNoRoom (Err why) = IsRoom why
IsNoRoom _ = ⊥

-- whether a line of its own tells what became of a drop
abbrev pub tells_drop : Result (Unit {0}) Refusal → Bool
tells_drop (Ok x) = true
tells_drop (Err (DiskFault device count)) = true
tells_drop (Err (Stopped device count)) = true
tells_drop (Err (NoSuchSnapshot number newest)) = true
tells_drop (Err (Pinned snapshot session)) = true
tells_drop _ = false

-- The seat made visits that left nothing of its own: it has seen more, and was told faults at most.
pub record Passes {D : Type 0} (z : TableId) (old new : Sat D) : Type 0 where
  pub ready : IsReady z new
  pub stays : StaysIn old new
  pub waits : Waits old new

-- the batch is done with, unless it was laid alone
abbrev pub IsDone : Result Carried Fault → Type 0
IsDone (Ok Laid) = ⊥
IsDone result = Unit {0}

-- room was made, or the rounds found the store stopped, which the desk tells itself
abbrev pub MayAskAgain : Result (Unit {0}) Refusal → Type 0
MayAskAgain (Ok x) = Unit {0}
MayAskAgain (Err (Stopped device count)) = Unit {0}
MayAskAgain _ = ⊥

module _ {D : Type 0} (is_honest : D → Type 0) (state : D → State) where
  -- The batch has captures behind the journal that the seat has seen, from a number on that it has seen the vault hold.
  abbrev pub IsBatchAt : Sat D → Batch → Type 0
  IsBatchAt s batch = (start : Start D) → opening s ≡ Some start
      → IsBatchIn is_honest state start (seen s) (held s) batch

  module _ (faults : D → ℕ) (z : TableId) (remembers : Type 0) (clock : D → Clock) where
    -- ---- a copy round

    -- In one visit to the vault a call did that with the batch, which has captures behind the journal that the seat has
    -- then seen.
    pub record CarriesIn (batch : Batch) (result : Result Carried Fault) (old new : Sat D) : Type 0 where
      pub before : Running D
      pub after : Running D
      pub visited : VisitedVault is_honest state faults z old new before after
      pub is_batch : (start : Start D) → opening old ≡ Some start →
          IsBatchIn is_honest state start (seen new) before.side.held batch
      pub carries : Carries is_honest state faults remembers clock batch result before after

    -- Visits to the vault with a batch: the last did that to it, and each before it laid the batch.
    pub data CarriesAtLast (batch : Batch) (result : Result Carried Fault) : Sat D → Sat D → Type 0 where
      Done : (old new : Sat D) → CarriesIn batch result old new → IsDone result → CarriesAtLast batch result old new
      LaidFirst : (old laid new : Sat D) → CarriesIn batch (Ok Laid) old laid → CarriesAtLast batch result laid new →
          CarriesAtLast batch result old new

    -- It was entered at last, and the desk told so in the next visit; or more than its first number was found held.
    pub data HasCopied (batch : Batch) (old new : Sat D) : Type 0 where
      EnteredIt : (count : ℕ) (middle : Sat D) → CarriesAtLast batch (Ok (Entered count)) old middle →
          Visits is_honest state faults z (AckDoes is_honest state (batch_end batch)) middle new
          → HasCopied batch old new
      WasThere : CarriesAtLast batch (Ok There) old new → HasCopied batch old new

    -- the line of a fault of a device was recorded in the next visit to the desk; else nothing followed
    abbrev pub IsNoted : Who → Refusal → Sat D → Sat D → Type 0
    IsNoted who (DiskFault device count) old new =
        Visits is_honest state faults z (NoteDoes is_honest state who device count Write) old new
    IsNoted who why old new = new ≡ old

    -- The last visit with the batch was refused so.
    pub record CopyRefused (who : Who) (batch : Batch) (why : Refusal) (old new : Sat D) : Type 0 where
      pub fault : Fault
      pub is : fault.why ≡ why
      pub middle : Sat D
      pub carries : CarriesAtLast batch (Err fault) old middle
      pub noted : IsNoted who why middle new

    -- The desk was asked for a batch. The round answers false exactly where it offered none.
    pub record CopiesRound (who : Who) (before batch : Batch) (result : Result Bool Refusal)
        (old new : Sat D) : Type 0 where
      pub asked : Bool
      pub middle : Sat D
      pub asks : Visits is_honest state faults z (Offers before batch asked) old middle
      pub none : asked ≡ false → (result ≡ Ok false) × (new ≡ middle)
      pub some : asked ≡ true → MatchResult result (λ more. (more ≡ true) × HasCopied batch middle new)
          (λ why. CopyRefused who batch why middle new)

    -- ---- a write round

    module _ (who : Who) where
      -- so many pages were written back, each in a visit of its own
      pub data HasWritten : ℕ → Sat D → Sat D → Type 0 where
        Nothing : (s : Sat D) → HasWritten 0 s s
        OneMore : (count : ℕ) (old middle new : Sat D) → HasWritten count old middle →
            Visits is_honest state faults z
            (WriteBackDoes is_honest state faults remembers clock who (Ok true)) middle new
            → HasWritten (count + 1) old new

      -- behind fewer than 63 pages the desk answered that to the next
      pub record WritesNoMore (answer : Result Bool Refusal) (old new : Sat D) : Type 0 where
        pub count : ℕ
        pub few : count < BATCH - 1
        pub middle : Sat D
        pub written : HasWritten count old middle
        pub answers : Visits is_honest state faults z
            (WriteBackDoes is_honest state faults remembers clock who answer) middle new

      -- 63 pages, or as many as the desk told that may be written
      pub data HasWrittenAll (old new : Sat D) : Type 0 where
        Many : HasWritten (BATCH - 1) old new → HasWrittenAll old new
        All : WritesNoMore (Ok false) old new → HasWrittenAll old new

      -- they were written, and then settled
      pub record HasSettled (result : Result (Unit {0}) Refusal) (old new : Sat D) : Type 0 where
        pub all : Sat D
        pub writes : HasWrittenAll old all
        pub settles : Visits is_honest state faults z
            (SettleDoes is_honest state faults remembers clock who result) all new

      -- and the log was cut where less than half of its half was free, if it could be
      pub record HasCut (result : Result Bool Refusal) (old new : Sat D) : Type 0 where
        pub middle : Sat D
        pub settled : HasSettled (Ok tt) old middle
        pub cuts : Visits is_honest state faults z
            (CutsBelow is_honest state faults remembers clock who (LOG_REGION_BYTES / 2) result) middle new

      -- Behind the first page the next one was refused so; or, behind them all, the settling; or, behind that, the cut.
      pub data WriteRefused (why : Refusal) (old new : Sat D) : Type 0 where
        Writing : WritesNoMore (Err why) old new → WriteRefused why old new
        Settling : HasSettled (Err why) old new → WriteRefused why old new
        Cutting : HasCut (Err why) old new → WriteRefused why old new

      -- The desk was asked to write a page back. The round answers false exactly where it told that none may be.
      pub record WritesRound (result : Result Bool Refusal) (old new : Sat D) : Type 0 where
        pub asked : Result Bool Refusal
        pub middle : Sat D
        pub asks : Visits is_honest state faults z
            (WriteBackDoes is_honest state faults remembers clock who asked) old middle
        pub none : asked ≡ Ok false → (result ≡ Ok false) × (new ≡ middle)
        pub refused : (why : Refusal) → asked ≡ Err why → (result ≡ Err why) × (new ≡ middle)
        pub some : asked ≡ Ok true → MatchResult result
            (λ more. (more ≡ true) × (was_cut : Bool) × HasCut (Ok was_cut) middle new)
            (λ why. WriteRefused why middle new)

      -- ---- a commit and a drop, for which room is made

      -- A round that is to make room for so many bytes: a copy round in some batch, then a write round, and then a
      -- visit that found them free, or else cut the log, if it could. The first of the three that was refused is last.
      pub data MakesRound (bytes : ℕ) (result : Result Bool Refusal) (old new : Sat D) : Type 0 where
        NoCopy : (before batch : Batch) (why : Refusal) → result ≡ Err why →
            CopiesRound who before batch (Err why) old new → MakesRound bytes result old new
        NoWrite : (before batch : Batch) (more : Bool) (why : Refusal) (copied : Sat D) → result ≡ Err why →
            CopiesRound who before batch (Ok more) old copied → WritesRound (Err why) copied new
            → MakesRound bytes result old new
        Cut : (before batch : Batch) (more wrote : Bool) (copied written : Sat D) →
            CopiesRound who before batch (Ok more) old copied → WritesRound (Ok wrote) copied written →
            Visits is_honest state faults z
            (CutsBelow is_honest state faults remembers clock who bytes result) written new
            → MakesRound bytes result old new

      -- Such rounds came one behind the other as long as fewer bytes were free and the log could not be cut. Behind the
      -- last there is room; or it was refused so. Where there was no memory for a batch, nothing was done.
      pub data MakesRoom (bytes : ℕ) (result : Result (Unit {0}) Refusal) : Sat D → Sat D → Type 0 where
        NoBatch : (s : Sat D) → result ≡ Err OutOfMemory → MakesRoom bytes result s s
        HasRoom : (old new : Sat D) → result ≡ Ok tt → MakesRound bytes (Ok true) old new →
            MakesRoom bytes result old new
        NoRound : (why : Refusal) (old new : Sat D) → result ≡ Err why → MakesRound bytes (Err why) old new →
            MakesRoom bytes result old new
        Again : (old middle new : Sat D) → MakesRound bytes (Ok false) old middle → MakesRoom bytes result middle new →
            MakesRoom bytes result old new

      -- The desk was asked. Its answer is the last, unless the log had no room for so many bytes. Then room was made
      -- for them: where that was refused, and not since the store has stopped, the refusal is the answer; else the desk
      -- was asked again, and so on.
      pub data AnswersAtLast {T : Type 0} (Does : Result T Refusal → Core D → Core D → Type 0)
          (result : Result T Refusal) : Sat D → Sat D → Type 0 where
        Answered : (old new : Sat D) → Visits is_honest state faults z (Does result) old new → (IsNoRoom result → ⊥) →
            AnswersAtLast Does result old new
        NoRoomMade : (needed free : ℕ) (why : Refusal) (old asked new : Sat D) →
            Visits is_honest state faults z (Does (Err (NoRoom needed free))) old asked →
            MakesRoom needed (Err why) asked new → (MayAskAgain (Err why) → ⊥) → result ≡ Err why →
            AnswersAtLast Does result old new
        AskedAgain : (needed free : ℕ) (made : Result (Unit {0}) Refusal) (old asked roomy new : Sat D) →
            Visits is_honest state faults z (Does (Err (NoRoom needed free))) old asked →
            MakesRoom needed made asked roomy → MayAskAgain made → AnswersAtLast Does result roomy new →
            AnswersAtLast Does result old new

      -- The desk was asked for a drop, whose line it kept while it was asked again. A drop that no line tells gives up
      -- the line that it kept, if any, in one more visit.
      pub record DropAnswers (below : ℕ) (result : Result (Unit {0}) Refusal) (old new : Sat D) : Type 0 where
        pub asked : Sat D
        pub asks : AnswersAtLast (DropDoes is_honest state faults remembers clock who below) result old asked
        pub told : tells_drop result ≡ true → new ≡ asked
        pub gives_up : tells_drop result ≡ false
            → Visits is_honest state faults z (GivesUpDrop is_honest state who) asked new
