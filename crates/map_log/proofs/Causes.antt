-- Why calls of the log were refused.
use Rattle.std.proofs.Common.{◌≡◌, ◌∙◌, ◌+◌, ◌*◌, ◌≤◌, ℕ, List, None, length, Result, Ok, Err, MatchResult, OnOk, ap, subst, arith}
use Rattle.disk_model.specs.Sizes.{maplog_half}
use Rattle.retro_base.specs.Cause.{IsFault}
use Rattle.retro_base.specs.Framing.{records_of}
use Rattle.retro_base.specs.declared.device.Device.{Device}
use Rattle.retro_base.specs.declared.device.Device.TheVariants.{Maplog}
use Rattle.retro_base.specs.declared.limits.TheConstants.{BATCH}
use Rattle.retro_base.specs.declared.refusal.Refusal.{Refusal}
use Rattle.retro_base.specs.declared.refusal.Refusal.TheVariants as refusals
use Rattle.gate_log.specs.Cause.{Fit, HasRoom, IsFillRefusal}
use Rattle.area_log.specs.Area.{Area, after_write, replaced}
use Rattle.area_log.specs.Cause.{IsWriteRefusal}
use Rattle.history.specs.declared.log.Version.{Version}
use Rattle.history.specs.declared.log.Version.TheVariants.{One, Two}
use Rattle.map_log.specs.Bodies.{run_length}
use Rattle.map_log.specs.Cause.{IsCallRefusal, IsRewriteRefusal}

-- a list that fits is not refused for want of room
fill_alone : (bodies : List (List ℕ)) (size before now : ℕ) (e : Refusal) → length (records_of bodies) + 17 ≤ size → IsFillRefusal size bodies Maplog before now e → IsCallRefusal before now e
fill_alone bodies size before now refusals.OutOfMemory fits is = is.1
fill_alone bodies size before now (refusals.DiskFault which count) fits is = is.1
fill_alone bodies size before now (refusals.NoRoom needed free) fits is = absurd (omega (arith, is.0.0, is.0.1, is.0.2))
fill_alone bodies size before now _ fits is = absurd is.0

pub made_or_refused : {T : Type 0} (bodies : List (List ℕ)) (size before now : ℕ) (r : Result T Refusal) → length (records_of bodies) + 17 ≤ size → MatchResult r (λ _. Fit size bodies × (now ≡ before)) (IsFillRefusal size bodies Maplog before now)
    → MatchResult r (λ _. now ≡ before) (IsCallRefusal before now)
made_or_refused bodies size before now (Ok x) fits is = is.1
made_or_refused bodies size before now (Err e) fits is = fill_alone bodies size before now e fits is

module _ (area : Area) (bodies : List (List ℕ)) (before now : ℕ) (device : area.log.device ≡ Maplog) (fits : length (records_of bodies) + 17 ≤ area.log.size) where
  write_alone : (e : Refusal) → IsWriteRefusal area (IsFillRefusal area.log.size bodies area.log.device before now) before now e → IsRewriteRefusal area before now e
  write_alone (refusals.Stopped which count) is = (is.0 ∙ device, is.1, is.2)
  write_alone refusals.OutOfMemory is = (is.0, is.1.1)
  write_alone (refusals.DiskFault which count) is = (is.0, subst (λ (d : Device). IsFault d before now (refusals.DiskFault which count)) device is.1.1)
  write_alone (refusals.NoRoom needed free) is = absurd (omega (arith, is.1.0.0, is.1.0.1, is.1.0.2))
  write_alone _ is = absurd is.1.0

  pub rewritten_or_refused : {T : Type 0} (r : Result T Refusal) → MatchResult r (λ _. (area.fault ≡ None) × Fit area.log.size bodies × (now ≡ before)) (IsWriteRefusal area (IsFillRefusal area.log.size bodies area.log.device before now) before now)
      → MatchResult r (λ _. (area.fault ≡ None) × (now ≡ before)) (IsRewriteRefusal area before now)
  rewritten_or_refused (Ok x) is = (is.0, is.2)
  rewritten_or_refused (Err e) is = write_alone e is

-- a low mark and a full batch fit behind a list of no more mappings than the capacity
pub room_behind : (version : Version) (area new : Area) (bodies : List (List ℕ)) (many capacity : ℕ) (r : Result (Unit {0}) Refusal) → new ≡ after_write area (replaced area bodies) r → area.log.size ≡ maplog_half capacity → length (records_of bodies) ≤ 38 + 5 * many → many ≤ capacity
    → OnOk r (HasRoom new.log (14 + run_length version BATCH))
room_behind One area new bodies many capacity (Ok x) is size few within = omega (arith, ap (λ (a : Area). a.log.gate) is, ap (λ (a : Area). a.log.size) is, size, few)
room_behind Two area new bodies many capacity (Ok x) is size few within = omega (arith, ap (λ (a : Area). a.log.gate) is, ap (λ (a : Area). a.log.size) is, size, few)
room_behind version area new bodies many capacity (Err e) is size few within = tt
