-- What a refusal by one device says of four.
use Rattle.std.proofs.Common.{◌≡◌, ◌≢◌, ◌⊎◌, inl, inr, ℕ, refl, sym, subst}
use Rattle.disk_model.specs.declared.four.Four.{Four}
use Rattle.retro_base.specs.declared.device.Device.{Device}
use Rattle.retro_base.specs.declared.device.Device.TheVariants.{Log, Pages, Pagelog, Maplog, Cabinet}
use Rattle.retro_base.specs.declared.refusal.Refusal.{Refusal}
use Rattle.retro_base.specs.declared.refusal.Refusal.TheVariants as refusals
use Rattle.gate_log.specs.Cause.{IsReadRefusal}
use Rattle.opening.specs.Devices.{IsUnopened, of_each, SameCounts}

same_or_not : (device other : Device) → (device ≡ other) ⊎ (device ≢ other)
same_or_not Log Log = inl refl
same_or_not Pages Pages = inl refl
same_or_not Pagelog Pagelog = inl refl
same_or_not Maplog Maplog = inl refl
same_or_not Cabinet Cabinet = inl refl
same_or_not device other = inr (λ e. absurd cc)

module _ (before now : Device → ℕ) (device : Device) (others : (other : Device) → other ≢ device → now other ≡ before other) where
  all_same : now device ≡ before device → SameCounts before now
  all_same same other = by_test (same_or_not other device)
    where
      by_test : (other ≡ device) ⊎ (other ≢ device) → now other ≡ before other
      by_test (inl is) = subst (λ (d : Device). now d ≡ before d) (sym is) same
      by_test (inr apart) = others other apart

  -- one device was refused, and the counts of the others are as they were
  pub unopened_by : (Breaks : Device → ℕ → Type 0) (IsBroken : ℕ → Type 0) → ((broken : ℕ) → IsBroken broken → Breaks device broken) → (why : Refusal) → IsReadRefusal IsBroken device (before device) (now device) why → IsUnopened Breaks before now why
  unopened_by Breaks IsBroken leads refusals.OutOfMemory is = all_same is
  unopened_by Breaks IsBroken leads (refusals.NotAStore which broken) is = (all_same is.1, subst (λ (d : Device). Breaks d broken) (sym is.0) (leads broken is.2))
  unopened_by Breaks IsBroken leads (refusals.DiskFault which count) is =
      subst (λ (d : Device). IsUnopened Breaks before now (refusals.DiskFault d count)) (sym is.0) ((refl, is.1, is.2, is.3), others)
  unopened_by Breaks IsBroken leads _ is = absurd is

module _ {D : Type 0} (number : D → ℕ) (old new : Four D) where
  pub each_same : number new.log ≡ number old.log → number new.pages ≡ number old.pages → number new.pagelog ≡ number old.pagelog → number new.maplog ≡ number old.maplog → SameCounts (of_each number old) (of_each number new)
  each_same log pages pagelog maplog Log = log
  each_same log pages pagelog maplog Pages = pages
  each_same log pages pagelog maplog Pagelog = pagelog
  each_same log pages pagelog maplog Maplog = maplog
  each_same log pages pagelog maplog Cabinet = refl

  pub others_same : (device : Device) → (Log ≢ device → number new.log ≡ number old.log) → (Pages ≢ device → number new.pages ≡ number old.pages) → (Pagelog ≢ device → number new.pagelog ≡ number old.pagelog)
      → (Maplog ≢ device → number new.maplog ≡ number old.maplog) → (other : Device) → other ≢ device → of_each number new other ≡ of_each number old other
  others_same device log pages pagelog maplog Log apart = log apart
  others_same device log pages pagelog maplog Pages apart = pages apart
  others_same device log pages pagelog maplog Pagelog apart = pagelog apart
  others_same device log pages pagelog maplog Maplog apart = maplog apart
  others_same device log pages pagelog maplog Cabinet apart = refl
