-- What a worker leaves, whose rounds come one behind the other.
use Rattle.std.specs.declared.sync.OnceToken.{OnceToken}
use Rattle.std.specs.Prelude.{◌≡◌, ◌⊎◌, ◌<◌, ◌≤◌, ◌+◌, ◌++◌, ℕ, Bool, true, false, List, [], ◌∷◌}
use Rattle.std.specs.Prelude.{Option, Some, None, is_some, Result, Ok, Err, IfOk, IfSome, OnOk}
use Rattle.atomic_table.specs.Seated.{TableId}
use Rattle.disk_model.specs.Disk.{State}
use Rattle.disk_model.specs.Moments.{Clock}
use Rattle.retro_base.specs.declared.device.Device.{Device}
use Rattle.retro_base.specs.declared.limits.TheConstants.{SESSIONS}
use Rattle.retro_base.specs.declared.refusal.Refusal.{Refusal}
use Rattle.retro_base.specs.declared.refusal.Refusal.TheVariants.{DiskFault, OutOfMemory, Stopped}
use Rattle.retro_base.specs.declared.who.Who.{Who}
use Rattle.history.specs.declared.journal.FailedCall.TheVariants.{Write}
use Rattle.history.specs.declared.journal.Line.{Line}
use Rattle.history.specs.declared.journal.What.TheVariants.{Fault}
use Rattle.history.specs.Lines.{base_of, first_stop, lines_of}
use Rattle.journal_law.specs.Seats.{Adds, Idle, IsNew, View, Waits}
use Rattle.race_model.specs.Vault.{Batch}
use Rattle.turn.specs.Seats.{held, mine, opening, seen}
use Rattle.store.specs.declared.pace.Ended.{Ended}
use Rattle.store.specs.declared.pace.Ended.TheVariants.{Idled, Told}
use Rattle.store.specs.declared.pace.TheConstants.{IDLE_ROUNDS}
use Rattle.store.specs.declared.pace.Worker.{Worker}
use Rattle.store.specs.declared.pace.Worker.TheVariants.{Copier, Flusher}
use Rattle.store.specs.Rounds.{CopiesRound, Passes, WritesRound}
use Rattle.store.specs.Seats.{Sat}
use Rattle.store.specs.Start.{opened_base}
use Rattle.store.specs.Workers.{IsFreshWorker}

-- the name of a worker's rounds in a phase
abbrev pub worker : ℕ → ℕ → Who
worker phase number = record { phase = phase; session = number; item = 0 }

-- the number of a worker's seat: the two behind those of the sessions
abbrev pub number_of : Worker → ℕ
number_of Copier = SESSIONS
number_of Flusher = SESSIONS + 1

-- a worker's seat, which has nothing open, and told no fault as yet
pub record MayWork {D : Type 0} (s : Sat D) : Type 0 where
  pub idle : (mine s).work ≡ None
  pub fresh : IsFreshWorker s.number (seen s)

-- what the last round answered: Ok comes only where that found nothing to do, a refusal only where it was refused so
abbrev pub last_answer : {T : Type 0} → Result T Refusal → Result Bool Refusal
last_answer (Ok x) = Ok false
last_answer (Err why) = Err why

-- the lines that a worker leaves: that of the fault which ended it, if one did
abbrev pub lines_left : {T : Type 0} → Who → Result T Refusal → List Line
lines_left who (Err (DiskFault device count)) = record { who = who; what = Fault device count Write } ∷ []
lines_left who result = []

-- What a worker leaves at a seat, in the terms of the law: lines of others have come, and behind them the line of the
-- fault that ended it, if one did, which is new.
abbrev pub WorkerGives : {T : Type 0} → Who → View → View → Result T Refusal → Type 0
WorkerGives who old new (Err (DiskFault device count)) = Adds old new who (Fault device count Write) Idle
    × IsNew new device count
WorkerGives who old new result = Waits old new old.work

-- the seat has recorded no line, or the store has stopped
abbrev pub IsFreshOrStopped : View → Type 0
IsFreshOrStopped view = (lines_of view.session view.front ≡ []) ⊎ (is_some (first_stop view.front) ≡ true)

-- lines of others have come, and behind them the line of a fault, which is new, as the seat's first
pub record TellsFirst (who : Who) (old new : View) : Type 0 where
  pub first : lines_of old.session old.front ≡ []
  pub device : Device
  pub count : ℕ
  pub adds : Adds old new who (Fault device count Write) Idle
  pub is_new : IsNew new device count

-- what a worker leaves that was run in a phase unless the store had stopped
abbrev pub WorkerLeaves : Who → View → View → Type 0
WorkerLeaves who old new = Waits old new old.work ⊎ TellsFirst who old new

-- a round is refused for want of memory, where a call of a device failed, and where the store has stopped
abbrev pub IsRoundRefusal : Refusal → Type 0
IsRoundRefusal OutOfMemory = Unit {0}
IsRoundRefusal (DiskFault device count) = Unit {0}
IsRoundRefusal (Stopped device count) = Unit {0}
IsRoundRefusal why = ⊥

-- the seat has seen the vault hold all that stands captured behind these lines
abbrev pub IsHeld : {D : Type 0} → Sat D → List Line → Type 0
IsHeld s lines = IfSome (opening s) (λ start. (base_of (opened_base start) lines).captures ≤ held s)

-- Why a worker ends whose last so many rounds found nothing to do: this flag was told, or they are as many as it makes.
abbrev pub MayEnd : ℕ → ℕ → Ended → Type 0
MayEnd flag idle (Told token) = token.of ≡ flag
MayEnd flag idle Idled = idle ≡ IDLE_ROUNDS

-- a worker that was told so, or not, when its last round began, ends so
abbrev pub EndsSo : Option (OnceToken (Unit {0})) → ℕ → Ended → Type 0
EndsSo told idle (Told token) = told ≡ Some token
EndsSo told idle Idled = idle ≡ IDLE_ROUNDS

module _ {S : Type 0} (Round : Result Bool Refusal → S → S → Type 0) where
  -- rounds that were answered, one behind the other, of which the last so many found nothing to do
  pub data AreAnswered : ℕ → S → S → Type 0 where
    NoneYet : (s : S) → AreAnswered 0 s s
    FoundMore : (idle : ℕ) (old middle new : S) → AreAnswered idle old middle → Round (Ok true) middle new →
        AreAnswered 0 old new
    FoundNone : (idle : ℕ) (old middle new : S) → AreAnswered idle old middle → Round (Ok false) middle new →
        AreAnswered (idle + 1) old new

  -- And a last one behind them, which found nothing, and the worker might end; or was refused so.
  pub record EndsWith (flag : ℕ) (result : Result Ended Refusal) (old new : S) : Type 0 where
    pub middle : S
    pub idle : ℕ
    pub few : idle < IDLE_ROUNDS
    pub answered : AreAnswered idle old middle
    pub ends : Round (last_answer result) middle new
    pub may_end : IfOk result (MayEnd flag (idle + 1))

-- a batch as it is made
abbrev pub no_batch : Batch
no_batch = record { first = 0; low = 0; images = [] }

-- a copy round, with the batch that it works in
abbrev pub Copies : {D : Type 0} → (D → Type 0) → (D → State) → (D → ℕ) → TableId → Type 0 → (D → Clock) → Who →
    Result Bool Refusal → Batch × Sat D → Batch × Sat D → Type 0
Copies is_honest state faults z remembers clock who result old new =
    CopiesRound is_honest state faults z remembers clock who old.0 new.0 result old.1 new.1

module _ {D : Type 0} (is_honest : D → Type 0) (state : D → State) (faults : D → ℕ) (z : TableId) (remembers : Type 0)
    (clock : D → Clock) (who : Who) (flag : ℕ) where
  -- The copier's rounds came one behind the other, in a batch of its own; behind Ok the vault holds all that stood
  -- captured in the journal that the seat had seen. Where there was no memory for the batch, nothing was done.
  pub data CopierEnds (result : Result Ended Refusal) (old new : Sat D) : Type 0 where
    NoBatch : result ≡ Err OutOfMemory → new ≡ old → CopierEnds result old new
    Ran : (batch : Batch) → EndsWith (Copies is_honest state faults z remembers clock who) flag result
        (no_batch, old) (batch, new) → OnOk result (IsHeld new (seen new)) → CopierEnds result old new

  -- the rounds of a worker, which are its own
  abbrev pub WorkerEnds : Worker → Result Ended Refusal → Sat D → Sat D → Type 0
  WorkerEnds Copier result old new = CopierEnds result old new
  WorkerEnds Flusher result old new =
      EndsWith (WritesRound is_honest state faults z remembers clock who) flag result old new

  -- The store had stopped when the seat asked, which did no more; or the worker ran, and left the line of the fault
  -- that ended it, if one did.
  pub data HasWorked (kind : Worker) (answer : Option (Result Ended Refusal)) (old new : Sat D) : Type 0 where
    FoundStopped : answer ≡ None → Passes z old new → is_some (first_stop (seen new)) ≡ true →
        HasWorked kind answer old new
    HasEnded : (asked : Sat D) (result : Result Ended Refusal) → answer ≡ Some result → Passes z old asked →
        is_some (first_stop (seen asked)) ≡ false → WorkerEnds kind result asked new →
        (mine new).lines ≡ (mine asked).lines ++ lines_left who result → HasWorked kind answer old new

-- a worker has run at its seat in a phase, whatever told it to end and whatever it answered
pub record HasRun {D : Type 0} (is_honest : D → Type 0) (state : D → State) (faults : D → ℕ) (z : TableId)
    (remembers : Type 0) (clock : D → Clock) (phase : ℕ) (kind : Worker) (old new : Sat D) : Type 0 where
  pub flag : ℕ
  pub answer : Option (Result Ended Refusal)
  pub works : HasWorked is_honest state faults z remembers clock (worker phase old.number) flag kind answer old new
