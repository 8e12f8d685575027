-- What keeps the texts of visible lines apart.
use Rattle.std.specs.Prelude.{◌≡◌, ◌⊎◌, ◌≤◌, ◌<◌, ◌+◌, ◌^◌, ℕ, List, length, Some, slice_get}
use Rattle.std.specs.List.{AllByRecursion}
use Rattle.retro_base.specs.declared.limits.TheConstants.{SESSIONS}
use Rattle.retro_base.specs.declared.who.Who.{Who}
use Rattle.history.specs.declared.journal.Line.{Line}
use Rattle.history.specs.declared.journal.What.{What}
use Rattle.history.specs.declared.journal.What.TheVariants.{Looked, Dropped, Fault}
use Rattle.script.specs.Name.{IsSessionName}
use Rattle.session.specs.Plan.{Plan, names_at, names_of}
use Rattle.session.specs.declared.plan.SessionPlan.{SessionPlan}

-- these are the names of the sessions of a phase: each is one, no two are the same, and there are not too many
pub record AreNames (names : List (List ℕ)) : Type 0 where
  pub each : AllByRecursion IsSessionName names
  pub few : length names ≤ SESSIONS
  pub differ : (one other : ℕ) (name : List ℕ) → slice_get names one ≡ Some name → slice_get names other ≡ Some name
      → one ≡ other

-- so it is in each phase of the plan
abbrev pub HasNames : Plan → Type 0
HasNames plan = AllByRecursion (λ (sessions : List SessionPlan). AreNames (names_of sessions)) plan

-- a session of its phase, or one of the two workers
abbrev pub IsNamed : Plan → Who → Type 0
IsNamed plan who =
    (who.session < length (names_at plan who.phase)) ⊎ ((SESSIONS ≤ who.session) × (who.session < SESSIONS + 2))

-- the number that is printed of it has 64 bits
abbrev pub HasNumber : What → Type 0
HasNumber (Looked snapshot) = snapshot < 2 ^ 64
HasNumber (Dropped below) = below < 2 ^ 64
HasNumber (Fault device count call) = count < 2 ^ 64
HasNumber what = Unit {0}

-- so has what is printed of whose it is
pub record HasNumbers (line : Line) : Type 0 where
  pub phase : line.who.phase < 2 ^ 64
  pub item : line.who.item < 2 ^ 64
  pub number : HasNumber line.what

-- whose the line is has a name, and its numbers have 64 bits
abbrev pub IsTold : Plan → Line → Type 0
IsTold plan line = IsNamed plan line.who × HasNumbers line

-- so it is with each line of a journal
abbrev pub AreTold : Plan → List Line → Type 0
AreTold plan lines = AllByRecursion (IsTold plan) lines

-- What a journal is by the types of its lines and by who has seats, which the rules of a lawful one leave open:
-- behind the sessions only the two workers have lines, and numbers have 64 bits.
abbrev pub IsOfSeats : Line → Type 0
IsOfSeats line = (line.who.session < SESSIONS + 2) × HasNumbers line

abbrev pub AreOfSeats : List Line → Type 0
AreOfSeats lines = AllByRecursion IsOfSeats lines
