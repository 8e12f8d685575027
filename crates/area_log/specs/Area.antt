-- What a log over the two halves of a device knows, and what the device holds.
use Rattle.std.specs.Prelude.{◌≡◌, ◌⊎◌, ◌↔◌, ◌*◌, ℕ, Bool, true, IsTrue, Option, Some, None, List, length, Result, Ok}
use Rattle.std.specs.Prelude.{Err, OnOk}
use Rattle.disk_model.specs.Disk.{State, IsDurable}
use Rattle.disk_model.specs.Moments.{Clock, LeavesOnly}
use Rattle.retro_base.specs.Framing.{next_generation}
use Rattle.retro_base.specs.declared.refusal.Refusal.{Refusal}
use Rattle.retro_base.specs.declared.device.Device.{Device}
use Rattle.retro_base.specs.declared.refusal.Refusal.TheVariants.{DiskFault, Stopped}
use Rattle.gate_log.specs.Appending.{after_append}
use Rattle.gate_log.specs.Log.{Region}
use Rattle.gate_log.specs.Region.{gate_behind, generation_at, IsOpen, Lists}
use Rattle.area_log.specs.Regions.{IsHalf, other_half, DeviceLists}

-- the log of the half that counts, its generation, whether the other half is open, and the first fault of a write
pub record Area : Type 0 where
  pub log : Region
  pub generation : ℕ
  pub is_other_open : Bool
  pub fault : Option ℕ

-- where the half that does not count begins
abbrev pub other_place : Area → ℕ
other_place area = other_half area.log.size area.log.place

-- The device lists these bodies as the log knows it, in its two halves, and all of it is durable.
pub record Holds (area : Area) (bodies : List (List ℕ)) (state : State) : Type 0 where
  pub whole : length state.seen ≡ 2 * area.log.size
  pub half : IsHalf area.log.size area.log.place
  pub lists : Lists area.log.place area.log.size bodies state.seen
  pub gate : area.log.gate ≡ gate_behind bodies
  pub is_open : IsOpen area.log.place state.seen
  pub generation : generation_at area.log.place state.seen ≡ area.generation
  pub other : IsTrue area.is_other_open ↔ IsOpen (other_place area) state.seen
  pub newer : IsOpen (other_place area) state.seen
      → area.generation ≡ next_generation (generation_at (other_place area) state.seen)
  pub durable : IsDurable state

-- the bytes are those of two halves of that size, and list the old bodies or the new ones
pub record ListsEither (size : ℕ) (old new : List (List ℕ)) (image : List ℕ) : Type 0 where
  pub whole : length image ≡ 2 * size
  pub lists : DeviceLists size old image ⊎ DeviceLists size new image

-- the log after an append of this body
abbrev pub appended : Area → List ℕ → Area
appended area body = record area { log = after_append area.log body true }

-- the log after these bodies have replaced what it held
abbrev pub replaced : Area → List (List ℕ) → Area
replaced area bodies = record {
  log = record area.log { place = other_place area; gate = gate_behind bodies };
  generation = next_generation area.generation;
  is_other_open = true;
  fault = area.fault;
}

-- the log after a write was refused: a fault stops it
abbrev pub after_refusal : Area → Refusal → Area
after_refusal area (DiskFault which count) = record area { fault = Some count }
after_refusal area _ = area

-- the log after a write, which has made it `done` where it succeeded
abbrev pub after_write : Area → Area → Result (Unit {0}) Refusal → Area
after_write area done (Ok _) = done
after_write area done (Err refusal) = after_refusal area refusal

-- The log behind a write, which has made it `done` where it succeeded. After a fault of an earlier write it is refused,
-- with the first.
pub record AfterWrite (old done : Area) (result : Result (Unit {0}) Refusal) (new : Area) : Type 0 where
  pub is : new ≡ after_write old done result
  pub device : new.log.device ≡ old.log.device
  pub size : new.log.size ≡ old.log.size
  pub stopped : (count : ℕ) → old.fault ≡ Some count → result ≡ Err (Stopped old.log.device count)

-- A write that makes a list of another. After a success the log holds the new list, durably. A crash at any moment
-- leaves a device of the same size with the old list or the new one.
pub record Writes {Disk : Type 0} (area after : Area) (list : List (List ℕ) → List (List ℕ))
    (remembers : Type 0) (state : Disk → State) (clock : Disk → Clock)
    (old new : Disk) (result : Result (Unit {0}) Refusal) : Type 0 where
  pub holds : (bodies : List (List ℕ)) → Holds area bodies (state old)
      → OnOk result (Holds after (list bodies) (state new))
  pub any_moment : (bodies : List (List ℕ)) → Holds area bodies (state old)
      → LeavesOnly remembers (clock old) (clock new) (ListsEither area.log.size bodies (list bodies))

-- a log that was read of a device of so many bytes, whatever it tells
pub record IsRead (which : Device) (extent : ℕ) (bodies : List (List ℕ)) (area : Area) : Type 0 where
  pub device : area.log.device ≡ which
  pub size : extent ≡ 2 * area.log.size
  pub gate : area.log.gate ≡ gate_behind bodies
  pub going : area.fault ≡ None

-- the device lists these bodies, and the log that was read holds them
pub record Fetched (size : ℕ) (area : Area) (bodies : List (List ℕ)) (old new : State) : Type 0 where
  pub lists : DeviceLists size bodies old.seen
  pub holds : Holds area bodies new
