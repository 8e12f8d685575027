-- Refusals of the calls of the Maplog.
use Rattle.std.proofs.Common.{◌≡◌, ◌∙◌, ℕ, Option, None, Some, is_some, true, Result, Ok, Err, refl, sym, ap, subst, arith}
use Rattle.std.specs.Result.{IsErrAnd}
use Rattle.retro_base.specs.Cause.{IsFault}
use Rattle.retro_base.specs.declared.device.Device.{Device}
use Rattle.retro_base.specs.declared.device.Device.TheVariants.{Maplog}
use Rattle.retro_base.specs.declared.refusal.Refusal.{Refusal}
use Rattle.retro_base.specs.declared.refusal.Refusal.TheVariants.{DiskFault, NoRoom, OutOfMemory, Stopped}
use Rattle.gate_log.specs.Cause.{HasRoom, IsAppendRefusal, IsDiskFault}
use Rattle.area_log.specs.Area.{Area}
use Rattle.area_log.specs.Cause.{IsWriteRefusal}
use Rattle.map_log.specs.Cause.{IsCallRefusal, IsRewriteRefusal}
use Rattle.archive.specs.Cause.{first_after}

-- an error that is passed on
pub passed_on : {T : Type 0} (r : Result T Refusal) (why : Refusal) → IsErrAnd r (λ e. e ≡ why) → r ≡ Err why
passed_on (Ok x) why is = absurd is
passed_on (Err e) why is = ap Err is

-- a log that goes on and has room refuses a record for a fault alone
pub add_faults : (area : Area) (count before now : ℕ) (why : Refusal) → area.fault ≡ None → area.log.device ≡ Maplog → HasRoom area.log count → IsWriteRefusal area (IsAppendRefusal area.log count before now) before now why
    → IsDiskFault why × IsFault Maplog before now why
add_faults area count before now (Stopped which at) going device room is = let stops : Some at ≡ None = sym is.1 ∙ going in absurd cc
add_faults area count before now (NoRoom needed free) going device room is = absurd (omega (arith, is.1.0, is.1.1, is.1.2))
add_faults area count before now (DiskFault which at) going device room is = (tt, subst (λ (d : Device). IsFault d before now (DiskFault which at)) device is.1.1)
add_faults area count before now why going device room is = absurd is.1.1

pub fault_called : (before now : ℕ) (why : Refusal) → IsFault Maplog before now why → IsCallRefusal before now why
fault_called before now (DiskFault which at) is = is
fault_called before now why is = absurd is

-- a log that goes on rewrites, or is refused for want of memory, or by a fault
pub rewrite_called : (area : Area) (before now : ℕ) (why : Refusal) → area.fault ≡ None → IsRewriteRefusal area before now why → IsCallRefusal before now why
rewrite_called area before now (Stopped which at) going is = let stops : Some at ≡ None = sym is.1 ∙ going in absurd cc
rewrite_called area before now OutOfMemory going is = is.1
rewrite_called area before now (DiskFault which at) going is = is.1
rewrite_called area before now why going is = absurd is.1

-- a fault that is kept stops the archive
pub fault_is_some : (first : Option (Device × ℕ)) (before now : ℕ) (device : Device) (why : Refusal) → IsFault device before now why → is_some (first_after first why) ≡ true
fault_is_some first before now device (DiskFault which at) is = refl
fault_is_some first before now device why is = absurd is

pub fault_is_disk : (before now : ℕ) (device : Device) (why : Refusal) → IsFault device before now why → IsDiskFault why
fault_is_disk before now device (DiskFault which at) is = tt
fault_is_disk before now device why is = absurd is

no_fault : (fault : Device × ℕ) → Some fault ≡ None → ⊥
no_fault fault is = cc

-- an archive that keeps no fault met none
pub none_kept : (first : Option (Device × ℕ)) (why : Refusal) → first_after first why ≡ None → IsDiskFault why → ⊥
none_kept first (DiskFault which at) none is = absurd (no_fault (which, at) none)
none_kept first why none is = is
