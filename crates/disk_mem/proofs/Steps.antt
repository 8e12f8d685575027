-- A write more of a device in memory.
use Rattle.std.proofs.Common.{◌≡◌, refl, ℕ, ◌+◌, ◌≤◌, List, length, Ok}
use Rattle.disk_model.specs.Disk.{Writes}
use Rattle.disk_model.proofs.Written.{same_outside}
use Rattle.disk_mem.specs.Disks.{stepped}
use Rattle.disk_mem.specs.History.{Past, state_of}
use Rattle.disk_mem.specs.declared.recording.Event.TheVariants.{Wrote}

pub writes_stepped : {E : Type 0} (past new : Past) (place : ℕ) (bytes : List ℕ) → place + length bytes ≤ length (state_of past).seen → new ≡ stepped past (Wrote place bytes)
    → Writes {E = E} place bytes (state_of past) (state_of new) (Ok tt)
writes_stepped past new place bytes fits is = rw is (record { done = refl; outside = same_outside place bytes (state_of past).seen fits; loose = λ i loose. loose })
