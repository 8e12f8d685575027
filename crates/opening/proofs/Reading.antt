-- The closed gate behind the list of a device.
use Rattle.std.proofs.Common.{◌≡◌, ◌∙◌, ◌+◌, ◌*◌, ℕ, List, length, sym, ap, arith}
use Rattle.disk_model.specs.Disk.{State}
use Rattle.retro_base.specs.declared.device.Device.{Device}
use Rattle.gate_log.specs.Region.{gate_behind}
use Rattle.area_log.specs.Area.{Area, Fetched, IsRead}
use Rattle.area_log.proofs.Fetches.{place_there}
use Rattle.opening.specs.Devices.{StandsWithGate}

-- a list that was read, and where its gate stands
pub gate_there : {X : Type 0} (device : Device) (half : ℕ) (StandsFor : List (List ℕ) → X → Type 0) (honest : Type 0) (extent : ℕ) (old new : State) (area : Area) (bodies : List (List ℕ)) → extent ≡ 2 * half → IsRead device extent bodies area
    → (honest → Fetched half area bodies old new) → (honest → new.seen ≡ old.seen) → (honest → length old.seen ≡ extent) → (gate : ℕ) (x : X) → gate ≡ area.log.place + area.log.gate → StandsFor bodies x → honest → StandsWithGate half StandsFor old.seen x gate
gate_there device half StandsFor honest extent old new area bodies whole read fetched same long gate x at stands h =
    let halves : area.log.size ≡ half = let size = read.size in omega arith in
    record {
      device = record { size = long h ∙ whole; bodies = bodies; lists = (fetched h).lists; stands = stands };
      closed = at ∙ ap (λ (g : ℕ). area.log.place + g) read.gate ∙ ap (λ (p : ℕ). p + gate_behind bodies) (sym (place_there half StandsFor area bodies old new (fetched h) (long h ∙ whole) (same h) halves));
    }
