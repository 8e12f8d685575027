-- A device in memory that fails as planned.
use Rattle.std.specs.Prelude.{◌≡◌, ◌⊎◌, ℕ, List, [], ◌∷◌, Option}
use Rattle.retro_base.specs.Cause.{raised}
use Rattle.disk_mem.specs.History.{Past, synced}
use Rattle.disk_mem.specs.Plan.{Plan, counted, IsFate, IsListed, IsStopped}
use Rattle.disk_mem.specs.declared.recording.Event.{Event}
use Rattle.disk_mem.specs.declared.recording.Event.TheVariants.{Lost}
use Rattle.disk_mem.specs.declared.schedule.Call.{Call}
use Rattle.disk_mem.specs.declared.schedule.Call.TheVariants.{Write}
use Rattle.disk_mem.specs.declared.schedule.Fate.TheVariants.{Fails}

-- its past, which calls fail, and how many calls have failed
pub record Device : Type 0 where
  pub past : Past
  pub plan : Plan
  pub faults : ℕ

-- a device with these bytes, all of them durable, of which no call was made yet
abbrev pub fresh : List ℕ → List (Call × ℕ) → Option ℕ → Device
fresh bytes failing stop = record {
  past = record { first = bytes; steps = [] };
  plan = record { failing = failing; stop = stop; reads = 0; writes = 0; syncs = 0 };
  faults = 0;
}

-- the past with this step more
abbrev pub stepped : Past → Event → Past
stepped past step = record { first = past.first; steps = step ∷ past.steps }

-- the past with a sync more
abbrev pub settled : Past → Past
settled past = record { first = past.first; steps = synced past.steps }

-- the device after a step more
abbrev pub with_step : Device → Event → Device
with_step device step = record device { past = stepped device.past step }

-- the device after a call of that kind that succeeded
abbrev pub called : Device → Call → Device
called device call = record device { plan = counted device.plan call }

-- the device after a call of that kind that failed
abbrev pub failed : Device → Call → Device
failed device call = record device { plan = counted device.plan call; faults = raised device.faults }

-- the next call of that kind fails as planned
abbrev pub MustFail : Device → Call → Type 0
MustFail device call = IsStopped device.plan ⊎ IsListed device.plan call

-- A write of that many bytes failed. One that is listed loses its range; any other leaves the bytes as they were.
pub record WriteFailed (old new : Device) (place count : ℕ) : Type 0 where
  pub listed : IsFate old.plan Write Fails → new ≡ with_step (failed old Write) (Lost place count)
  pub other : (IsFate old.plan Write Fails → ⊥) → new ≡ failed old Write
