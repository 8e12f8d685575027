-- What an append leaves, and a crash within it.
use Rattle.std.specs.Prelude.{◌⊎◌, ◌+◌, ℕ, List, [], ◌∷◌, ◌++◌, length, Bool, if◌then◌else◌, Result, OnOk}
use Rattle.disk_model.specs.Disk.{State, InRange, IsDurable, SameOutside}
use Rattle.disk_model.specs.Moments.{Clock, LeavesOnly}
use Rattle.retro_base.specs.declared.refusal.Refusal.{Refusal}
use Rattle.gate_log.specs.Log.{Region, HoldsBodies}
use Rattle.gate_log.specs.Region.{Lists}

-- the place was loose, or lies in the range
abbrev pub LooseOrIn : State → ℕ → ℕ → ℕ → Type 0
LooseOrIn state from count place = state.is_loose place ⊎ InRange from count place

-- The list with this body more, or without it. Nothing else has changed but what was loose and the range of the record
-- and the gate behind it.
pub record Appending (log : Region) (bodies : List (List ℕ)) (body : List ℕ) (old : State) (image : List ℕ)
    : Type 0 where
  pub lists : Lists log.place log.size bodies image ⊎ Lists log.place log.size (bodies ++ body ∷ []) image
  pub same : SameOutside (LooseOrIn old (log.place + log.gate) (length body + 6)) old.seen image

-- the log after an append of this body that succeeded or not
abbrev pub after_append : Region → List ℕ → Bool → Region
after_append log body succeeded = if succeeded then record log { gate = log.gate + length body + 5 } else log

-- An append of this body. After a success the log holds it too, and nothing is loose. A crash at any moment leaves the
-- list with it or without.
pub record Appends {Device : Type 0} (log after : Region) (body : List ℕ) (remembers : Type 0) (state : Device → State)
    (clock : Device → Clock) (old new : Device) (result : Result (Unit {0}) Refusal) : Type 0 where
  pub holds : (bodies : List (List ℕ)) → HoldsBodies log bodies (state old)
      → OnOk result (HoldsBodies after (bodies ++ body ∷ []) (state new))
  pub durable : OnOk result (IsDurable (state new))
  pub any_moment : (bodies : List (List ℕ)) → HoldsBodies log bodies (state old)
      → LeavesOnly remembers (clock old) (clock new) (Appending log bodies body (state old))
