-- Why a log was not made or rewritten, where there is room.
use Rattle.std.proofs.Common.{◌≡◌, ℕ, List, None, arith}
use Rattle.std.specs.Prelude.{Result, Ok, Err, MatchResult}
use Rattle.retro_base.specs.declared.device.Device.{Device}
use Rattle.retro_base.specs.declared.refusal.Refusal.{Refusal}
use Rattle.retro_base.specs.declared.refusal.Refusal.TheVariants as refusals
use Rattle.gate_log.specs.Cause.{Fit, IsFillRefusal}
use Rattle.area_log.specs.Area.{Area}
use Rattle.area_log.specs.Cause.{IsWriteRefusal}
use Rattle.redo_log.specs.Cause.{IsMemoryOrFault}

module _ (size : ℕ) (bodies : List (List ℕ)) (room : Fit size bodies) (device : Device) (before now : ℕ) where
  with_room : (e : Refusal) → IsFillRefusal size bodies device before now e → IsMemoryOrFault device before now e
  with_room refusals.OutOfMemory is = is.1
  with_room (refusals.DiskFault which count) is = is.1
  with_room (refusals.NoRoom needed free) is = absurd (omega (arith, room, is.0.0, is.0.1, is.0.2))
  with_room _ is = absurd is.0

  pub made_with_room : {T : Type 0} (r : Result T Refusal) → MatchResult r (λ _. Fit size bodies × (now ≡ before)) (IsFillRefusal size bodies device before now) → MatchResult r (λ _. now ≡ before) (IsMemoryOrFault device before now)
  made_with_room (Ok x) is = is.1
  made_with_room (Err e) is = with_room e is

  rewritten_with_room : (area : Area) (e : Refusal) → IsWriteRefusal area (IsFillRefusal size bodies device before now) before now e → IsWriteRefusal area (IsMemoryOrFault device before now) before now e
  rewritten_with_room area (refusals.Stopped which count) is = is
  rewritten_with_room area refusals.OutOfMemory is = (is.0, with_room refusals.OutOfMemory is.1)
  rewritten_with_room area (refusals.DiskFault which count) is = (is.0, with_room (refusals.DiskFault which count) is.1)
  rewritten_with_room area (refusals.NoRoom needed free) is = absurd (with_room (refusals.NoRoom needed free) is.1)
  rewritten_with_room area _ is = absurd is.1.0

  pub rewritten : (area : Area) (r : Result (Unit {0}) Refusal) → MatchResult r (λ _. (area.fault ≡ None) × Fit size bodies × (now ≡ before)) (IsWriteRefusal area (IsFillRefusal size bodies device before now) before now)
      → MatchResult r (λ _. (area.fault ≡ None) × (now ≡ before)) (IsWriteRefusal area (IsMemoryOrFault device before now) before now)
  rewritten area (Ok x) is = (is.0, is.2)
  rewritten area (Err e) is = rewritten_with_room area e is
