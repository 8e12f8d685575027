-- What the reading of the bodies of a log tells of its device.
use Rattle.std.proofs.Common.{◌≡◌, inl, inr, ◌∙◌, ◌+◌, ◌*◌, ℕ, List, length, take, Result, Ok, Err, MatchResult, refl, sym, ap, subst, arith}
use Rattle.disk_model.specs.Disk.{State}
use Rattle.retro_base.specs.declared.device.Device.{Device}
use Rattle.retro_base.specs.declared.refusal.Refusal.{Refusal}
use Rattle.retro_base.specs.declared.refusal.Refusal.TheVariants as refusals
use Rattle.gate_log.specs.Cause.{IsReadRefusal}
use Rattle.gate_log.specs.Bodies.{BreaksAs, BreaksBehind}
use Rattle.gate_log.specs.Region.{gate_behind}
use Rattle.gate_log.specs.declared.unread.Unread.{Unread}
use Rattle.gate_log.specs.declared.unread.Unread.TheVariants.{OutOfMemory, Broken}
use Rattle.area_log.specs.Area.{Area, Fetched, IsRead}
use Rattle.area_log.specs.Listed.{DeviceRefused, DeviceStandsFor, IsRefused, IsUnlisted, NotListed, refusal_of, TellsSize}
use Rattle.area_log.specs.Regions.{Counts}
use Rattle.area_log.proofs.Unique.{counts_once}

-- a refusal at places that are also others
pub refused_also : {T : Type 0} (r : Result T Refusal) (P Q : ℕ → Type 0) (device : Device) (before now : ℕ) → ((place : ℕ) → P place → Q place) → MatchResult r (λ _. now ≡ before) (IsReadRefusal P device before now) → MatchResult r (λ _. now ≡ before) (IsReadRefusal Q device before now)
refused_also (Ok x) P Q device before now leads is = is
refused_also (Err refusals.OutOfMemory) P Q device before now leads is = is
refused_also (Err (refusals.NotAStore which place)) P Q device before now leads is = (is.0, is.1, leads place is.2)
refused_also (Err (refusals.DiskFault which count)) P Q device before now leads is = is
refused_also (Err _) P Q device before now leads is = absurd is

module _ {X : Type 0} (half : ℕ) (StandsFor : List (List ℕ) → X → Type 0) where
  -- a device that is not listed is refused
  not_listed_refused : (old new : State) (broken : ℕ) → NotListed half old new broken → DeviceRefused half StandsFor old.seen broken
  not_listed_refused old new broken (inl size) = inl size
  not_listed_refused old new broken (inr (size, breaks)) = inr (size, inl breaks.breaks)

  module _ (area : Area) (bodies : List (List ℕ)) (old new : State) (fetched : Fetched half area bodies old new) (size : length old.seen ≡ 2 * half) (same : new.seen ≡ old.seen) (halves : area.log.size ≡ half) where
    -- bodies that stand for a value
    pub fetched_stands : (x : X) → StandsFor bodies x → DeviceStandsFor half StandsFor old.seen x
    fetched_stands x stands = record { size = size; bodies = bodies; lists = fetched.lists; stands = stands }

    -- the half that counts is where the log has it
    pub place_there : fetched.lists.place ≡ area.log.place
    place_there =
        let holds = fetched.holds in
        let counts : Counts area.log.size area.log.place new.seen = record { half = holds.half; is_open = holds.is_open; newer = λ is. holds.generation ∙ holds.newer is } in
        counts_once half fetched.lists.place area.log.place old.seen fetched.lists.counts
        (subst (λ (h : ℕ). Counts h area.log.place old.seen) halves (subst (λ (b : List ℕ). Counts area.log.size area.log.place b) same counts))

    -- bodies that break behind a front
    pub fetched_breaks : (behind : ℕ) → BreaksBehind StandsFor bodies (take behind bodies) → DeviceRefused half StandsFor old.seen (area.log.place + gate_behind (take behind bodies))
    fetched_breaks behind breaks = inr (size, inr (record { bodies = bodies; lists = fetched.lists; front = take behind bodies; breaks = breaks; told = ap (λ (p : ℕ). p + gate_behind (take behind bodies)) (sym place_there) }))

module _ {X : Type 0} (device : Device) (half : ℕ) (StandsFor : List (List ℕ) → X → Type 0) (honest : Type 0) (extent : ℕ) (old new : State) where
  tells : (broken : ℕ) → IsUnlisted half extent broken → TellsSize (2 * half) extent broken
  tells broken (inl size) = inl size
  tells broken (inr right) = inr right.0

  -- a device that lists nothing is refused
  pub unlisted_refused : (e : Refusal) (before now : ℕ) → IsReadRefusal (λ broken. IsUnlisted half extent broken × (honest → NotListed half old new broken)) device before now e
      → IsReadRefusal (IsRefused half StandsFor honest extent old.seen) device before now e
  unlisted_refused refusals.OutOfMemory before now is = is
  unlisted_refused (refusals.NotAStore which broken) before now is = (is.0, is.1, record { size = tells broken is.2.0; breaks = λ h. not_listed_refused half StandsFor old new broken (is.2.1 h) })
  unlisted_refused (refusals.DiskFault which count) before now is = is
  unlisted_refused _ before now is = absurd is

  module _ (area : Area) (bodies : List (List ℕ)) (whole : extent ≡ 2 * half) (read : IsRead device extent bodies area) (fetched : honest → Fetched half area bodies old new) (same : honest → new.seen ≡ old.seen)
      (long : honest → length old.seen ≡ extent) where
    halves : area.log.size ≡ half
    halves = let size = read.size in omega arith

    unread_refused : (e : Unread) (count : ℕ) → BreaksAs StandsFor bodies e → IsReadRefusal (IsRefused half StandsFor honest extent old.seen) device count count (refusal_of area bodies e)
    unread_refused OutOfMemory count breaks = refl
    unread_refused (Broken behind) count breaks = (
      read.device,
      refl,
      record { size = inr whole; breaks = λ h. fetched_breaks half StandsFor area bodies old new (fetched h) (long h ∙ whole) (same h) halves behind breaks },
    )

    -- one whose list was not read is refused
    pub unread_told : (refusal : Refusal) (e : Unread) (before now : ℕ) → refusal ≡ refusal_of area bodies e → now ≡ before → BreaksAs StandsFor bodies e → IsReadRefusal (IsRefused half StandsFor honest extent old.seen) device before now refusal
    unread_told refusal e before now told count breaks =
        subst (λ (x : ℕ × Refusal). IsReadRefusal (IsRefused half StandsFor honest extent old.seen) device before x.0 x.1) (λ i. (sym count i, sym told i)) (unread_refused e before breaks)

    -- one whose list was read stands for what it says
    pub stands_there : (x : X) → StandsFor bodies x → honest → DeviceStandsFor half StandsFor old.seen x
    stands_there x stands h = fetched_stands half StandsFor area bodies old new (fetched h) (long h ∙ whole) (same h) halves x stands
