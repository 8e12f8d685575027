-- Why a command found no store, or not what is in it.
use Rattle.std.proofs.Common.{ℕ, List, Option, Err}
use Rattle.std.specs.Prelude.{Result}
use Rattle.disk_model.specs.Disk.{State}
use Rattle.disk_model.specs.Moments.{Clock}
use Rattle.disk_model.specs.declared.four.Four.{Four}
use Rattle.disk_model.specs.declared.four.Sizes.{Sizes}
use Rattle.retro_base.specs.Cause.{IsFault}
use Rattle.retro_base.specs.declared.device.Device.{Device}
use Rattle.retro_base.specs.declared.device.Device.TheVariants.{Cabinet}
use Rattle.retro_base.specs.declared.refusal.Refusal.{Refusal}
use Rattle.retro_base.specs.declared.refusal.Refusal.TheVariants.{DiskFault, NotAStore, OutOfMemory}
use Rattle.history.specs.declared.log.Version.TheVariants.{One}
use Rattle.opening.specs.Devices.{IsUnopened, of_each}
use Rattle.session.specs.Plan.{Plan}
use Rattle.store.specs.Opening.{AreRefused}
use Rattle.retro.specs.Formats.{Makes}
use Rattle.retro.specs.Says.{IsNoStore}
use Rattle.retro.specs.Shows.{Looks}
use Rattle.retro.specs.Stores.{HandsOutNone}
use Rattle.retro.specs.Storing.{RunsOn}

of_fault : (device : Device) (before now : ℕ) (why : Refusal) → IsFault device before now why → IsNoStore why
of_fault device before now (DiskFault which count) is = tt
of_fault device before now why is = absurd is

unopened : (Breaks : Device → ℕ → Type 0) (before now : Device → ℕ) (why : Refusal) → IsUnopened Breaks before now why → IsNoStore why
unopened Breaks before now OutOfMemory is = tt
unopened Breaks before now (NotAStore device place) is = tt
unopened Breaks before now (DiskFault device count) is = tt
unopened Breaks before now why is = absurd is

-- the cabinet handed out none
pub handed_none : {C Store : Type 0} {faults : C → ℕ} {is_out : C → List ℕ → Type 0} {tells : C → Type 0} {store : C → List ℕ → Option Store} {old new : C} {why : Refusal}
    → HandsOutNone faults is_out tells store old new why → IsNoStore why
handed_none {faults = faults} {old = old} {new = new} {why = why} none = of_fault Cabinet (faults old) (faults new) why none.fault

-- none was made, looked at, or run over
pub made_none : {D : Type 0} {extent faults : D → ℕ} {is_honest : D → Type 0} {state : D → State} {told : Type 0} {sizes : Sizes} {first last : Four D} {why : Refusal}
    → Makes extent faults is_honest state told sizes first last (Err why) → IsNoStore why
made_none {faults = faults} {first = first} {last = last} {why = why} makes = unopened (λ _ _. ⊥) (of_each faults first) (of_each faults last) why makes.cause

module _ {D : Type 0} {extent faults : D → ℕ} {is_honest : D → Type 0} {remembers : Type 0} {state : D → State} {clock : D → Clock} {first last : Four D} {why : Refusal} where
  pub looked_none : Looks extent faults is_honest remembers state clock first last (Err why) → IsNoStore why
  looked_none looks = unopened (AreRefused extent is_honest state One first) (of_each faults first) (of_each faults last) why looks.cause

  pub ran_none : {plan : Plan} → RunsOn extent faults is_honest remembers state clock plan first last (Err why) → IsNoStore why
  ran_none runs = unopened (AreRefused extent is_honest state One first) (of_each faults first) (of_each faults last) why runs.unopened
