-- Which calls of a device in memory fail.
use Rattle.std.specs.Prelude.{ℕ, ◌+◌, ◌-◌, ◌^◌, ◌<◌, ◌≤◌, List, [], ◌∷◌, min, Contains, Option, IsSomeAnd}
use Rattle.retro_base.specs.Cause.{raised}
use Rattle.disk_mem.specs.declared.schedule.Call.{Call}
use Rattle.disk_mem.specs.declared.schedule.Call.TheVariants.{Read, Write, Sync}
use Rattle.disk_mem.specs.declared.schedule.Fate.{Fate}
use Rattle.disk_mem.specs.declared.schedule.Fate.TheVariants.{Goes, Fails, Stopped}

-- the calls that fail, each by its kind and its number among those of its kind, and the number of calls after which
-- each fails; and how many calls of each kind there were
pub record Plan : Type 0 where
  pub failing : List (Call × ℕ)
  pub stop : Option ℕ
  pub reads : ℕ
  pub writes : ℕ
  pub syncs : ℕ

-- how many calls of that kind there were
abbrev pub made : Plan → Call → ℕ
made plan Read = plan.reads
made plan Write = plan.writes
made plan Sync = plan.syncs

-- one call of that kind more
abbrev pub counted : Plan → Call → Plan
counted plan Read = record plan { reads = raised plan.reads }
counted plan Write = record plan { writes = raised plan.writes }
counted plan Sync = record plan { syncs = raised plan.syncs }

-- each further call fails and changes nothing
abbrev pub IsStopped : Plan → Type 0
IsStopped plan = IsSomeAnd plan.stop (λ last. last ≤ plan.reads + plan.writes + plan.syncs)

-- the next call of that kind is listed; once the count of calls stands at its last value, none is
abbrev pub IsListed : Plan → Call → Type 0
IsListed plan call = (made plan call < 2 ^ 64 - 1) × Contains plan.failing (call, made plan call + 1)

-- how the next call of that kind ends
abbrev pub IsFate : Plan → Call → Fate → Type 0
IsFate plan call Stopped = IsStopped plan
IsFate plan call Fails = (IsStopped plan → ⊥) × IsListed plan call
IsFate plan call Goes = (IsStopped plan → ⊥) × (IsListed plan call → ⊥)

-- how many of the listed writes have a number over this one
abbrev pub writes_over : ℕ → List (Call × ℕ) → ℕ
writes_over number [] = 0
writes_over number ((Write, listed) ∷ rest) = min 1 (listed - number) + writes_over number rest
writes_over number (_ ∷ rest) = writes_over number rest
