-- What calls over a pager answer: the forms of their contracts.
use Rattle.std.specs.Prelude.{◌≡◌, ◌⊎◌, ℕ, Result, Ok, Err}
use Rattle.retro_base.specs.Cause.{Rose}
use Rattle.retro_base.specs.declared.device.Device.TheVariants as device
use Rattle.retro_base.specs.declared.refusal.Refusal.{Refusal}
use Rattle.retro_base.specs.declared.refusal.Refusal.TheVariants.{OutOfMemory, NotAStore, PagesFull}
use Rattle.pager.specs.Pages.{Pages, IsPartOf, Leads, Narrows}
use Rattle.pager.specs.declared.stop.Stop.{Stop}
use Rattle.pager.specs.declared.stop.Stop.TheVariants as stop

-- a refusal is one that the definition allows, unless memory ran out or the pager failed
abbrev pub AllowedStop : {F : Type 0} → (Refusal → Type 0) → Stop F → Type 0
AllowedStop allows (stop.Refused why) = (why ≡ OutOfMemory) ⊎ allows why
AllowedStop allows (stop.Pager fault) = Unit {0}

-- an answer is one that the definition allows, unless memory ran out or the pager failed
abbrev pub Allowed : {X Y F : Type 0} → (X → Y) → (Result Y Refusal → Type 0) → Result X (Stop F) → Type 0
Allowed view allows (Ok x) = allows (Ok (view x))
Allowed view allows (Err why) = AllowedStop (λ refusal. allows (Err refusal)) why

-- how the pager's count of faults stands after a call that ended early: it has risen where the pager failed, else it is
-- as it was
abbrev pub StopIsCaused : {F : Type 0} → ℕ → ℕ → Stop F → Type 0
StopIsCaused before now (stop.Refused why) = now ≡ before
StopIsCaused before now (stop.Pager fault) = Rose before now

-- the same of any answer
abbrev pub IsCaused : {X F : Type 0} → ℕ → ℕ → Result X (Stop F) → Type 0
IsCaused before now (Ok x) = now ≡ before
IsCaused before now (Err why) = StopIsCaused before now why

-- the refusals of calls that read the pages of a store: want of memory, and pages that are no store's
abbrev pub IsOfReading : Refusal → Type 0
IsOfReading OutOfMemory = Unit {0}
IsOfReading (NotAStore where_ place) = where_ ≡ device.Pages
IsOfReading _ = ⊥

-- the refusals of calls that edit them: no page left, besides
abbrev pub IsOfPages : ℕ → Refusal → Type 0
IsOfPages size why = IsOfReading why ⊎ (why ≡ PagesFull size)

abbrev pub StopIsNamed : {F : Type 0} → (Refusal → Type 0) → Stop F → Type 0
StopIsNamed named (stop.Refused why) = named why
StopIsNamed named (stop.Pager fault) = Unit {0}

-- a call answers a value, one of these refusals, or the pager's fault
abbrev pub IsNamed : {X F : Type 0} → (Refusal → Type 0) → Result X (Stop F) → Type 0
IsNamed named (Ok x) = Unit {0}
IsNamed named (Err why) = StopIsNamed named why

-- what a call that only reads answers is what the definition allows of the pages that the pager shows
abbrev pub Answers : {X Y F : Type 0} → (X → Y) → (Pages → Pages → Type 0) → (Pages → Result Y Refusal → Type 0)
    → Result X (Stop F) → Type 0
Answers view tells allows result = (base shown : Pages) → tells base shown → Allowed view (allows shown) result

-- what is left of the pages where the pager failed: all as they were, or some of the edits made that an answer makes
abbrev pub IsCutShort : {Y : Type 0} → (Result (Y × Pages) Refusal → Type 0) → Pages → Pages → Type 0
IsCutShort {Y} allows was now = (now ≡ was)
    ⊎ ((y : Y) × (whole : Pages) × allows (Ok (y, whole)) × IsPartOf was whole now)

-- what a call that edits leaves where it was not Ok: after a refusal no page was edited
abbrev pub LeavesStopped : {Y F : Type 0} → (Result (Y × Pages) Refusal → Type 0) → Pages → Pages → Stop F → Type 0
LeavesStopped allows was now (stop.Refused why) = (now ≡ was) × ((why ≡ OutOfMemory) ⊎ allows (Err why))
LeavesStopped allows was now (stop.Pager fault) = IsCutShort allows was now

-- what a call that edits answers and leaves is what the definition allows of the pages before it
abbrev pub Leaves : {X Y F : Type 0} → (X → Y) → (Result (Y × Pages) Refusal → Type 0) → Pages → Pages
    → Result X (Stop F) → Type 0
Leaves view allows was now (Ok x) = allows (Ok (view x, now))
Leaves view allows was now (Err why) = LeavesStopped allows was now why

-- the same of the pages that the pager shows before the call and after it
abbrev pub Makes : {X Y F : Type 0} → (X → Y) → (Pages → Pages → Type 0) → (Pages → Pages → Type 0)
    → (Pages → Result (Y × Pages) Refusal → Type 0) → Result X (Stop F) → Type 0
Makes view before after allows result = Leads before after (λ was now. Leaves view (allows was) was now result)

-- what a call keeps whatever it answers, and what ended it
pub record Accounts {P X F : Type 0} (goes : P → P → Type 0) (size faults : P → ℕ) (old new : P)
    (result : Result X (Stop F)) : Type 0 where
  pub goes_on : goes old new
  pub size_stays : size new ≡ size old
  pub cause : IsCaused (faults old) (faults new) result
  pub named : IsNamed (IsOfPages (size old)) result

-- the same of a call that drafts edits: it makes none
pub record OnlyDrafts {P X F : Type 0} (tells : P → Pages → Pages → Type 0) (goes : P → P → Type 0)
    (size faults : P → ℕ) (old new : P) (result : Result X (Stop F)) : Type 0 where
  pub narrows : Narrows (tells old) (tells new)
  pub goes_on : goes old new
  pub size_stays : size new ≡ size old
  pub cause : IsCaused (faults old) (faults new) result
  pub named : IsNamed (IsOfPages (size old)) result

-- the same of a call that only reads: it is never refused for want of a free page
pub record OnlyReads {P X F : Type 0} (tells : P → Pages → Pages → Type 0) (goes : P → P → Type 0) (size faults : P → ℕ)
    (old new : P) (result : Result X (Stop F)) : Type 0 where
  pub narrows : Narrows (tells old) (tells new)
  pub goes_on : goes old new
  pub size_stays : size new ≡ size old
  pub cause : IsCaused (faults old) (faults new) result
  pub named : IsNamed IsOfReading result
