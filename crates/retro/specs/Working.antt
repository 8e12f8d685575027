-- The workers of a phase, the seats of which are the last two of a run's.
use Rattle.std.specs.Prelude.{◌≡◌, ◌==◌, ◌<◌, ◌≤◌, ◌+◌, ℕ, List, length, Option, Some, if◌then◌else◌}
use Rattle.retro_base.specs.declared.limits.TheConstants.{SESSIONS}
use Rattle.journal_law.specs.Seats.{Idle, View}
use Rattle.store.specs.declared.pace.Worker.{Worker}
use Rattle.store.specs.declared.pace.Worker.TheVariants.{Copier, Flusher}
use Rattle.store.specs.WorkerRounds.{IsFreshOrStopped, WorkerLeaves, worker}
use Rattle.retro.specs.Slots.{IsSeated, seat_at, view_at}
use Rattle.retro.specs.declared.slots.Slot.{Slot}

-- Each of these slots, of which the first is the copier's, has a seat at which a worker may run.
abbrev pub AreWorkers : {S : Type 0} → (S → View) → List (Slot S) → Type 0
AreWorkers view slots = (place : ℕ) → place < length slots →
    IsSeated view (SESSIONS + place) (seat_at slots place) × IsFreshOrStopped (view_at view slots place)

-- the worker whose seat has that number, of the two
abbrev pub worker_of : ℕ → Worker
worker_of number = if number == SESSIONS then Copier else Flusher

-- The worker of the seat that was there has run at it in a phase, as workers of its kind do there.
pub record WorkedAt {S : Type 0} (view : S → View) (goes : S → S → Type 0) (works : ℕ → Worker → S → S → Type 0)
    (phase number : ℕ) (old new : Option S) : Type 0 where
  pub before : S
  pub behind : S
  pub was : old ≡ Some before
  pub is : new ≡ Some behind
  pub number_is : (view behind).session ≡ number
  pub idle : (view behind).work ≡ Idle
  pub stays : goes before behind
  pub does : works phase (worker_of number) before behind
  pub leaves : WorkerLeaves (worker phase number) (view before) (view behind)

-- So the workers of a phase have run, each at the seat in its slot.
abbrev pub AllWorked : {S : Type 0} → (S → View) → (S → S → Type 0) → (ℕ → Worker → S → S → Type 0) → ℕ →
    List (Slot S) → List (Slot S) → Type 0
AllWorked view goes works phase old new = (place : ℕ) → place < length old →
    WorkedAt view goes works phase (SESSIONS + place) (seat_at old place) (seat_at new place)

-- They have run beside the sessions, and then once more.
pub record WorkedTwice {S : Type 0} (view : S → View) (goes : S → S → Type 0) (works : ℕ → Worker → S → S → Type 0)
    (phase : ℕ) (old new : List (Slot S)) : Type 0 where
  pub between : List (Slot S)
  pub count : length between ≡ length old
  pub last_count : length new ≡ length between
  pub beside : AllWorked view goes works phase old between
  pub again : AllWorked view goes works phase between new

-- among all the seats of a run, each behind the sessions' is one at which a worker may run
abbrev pub MayWorkOn : {S : Type 0} → (S → View) → List (Slot S) → Type 0
MayWorkOn view slots = (number : ℕ) → SESSIONS ≤ number → number < length slots →
    IsFreshOrStopped (view_at view slots number)
