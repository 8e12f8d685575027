-- What a copy round leaves.
use Rattle.std.proofs.Common.{◌≡◌, ◌≤◌, ◌<◌, ◌∙◌, ℕ, Bool, true, false, Result, Ok, Err, refl, sym, ap, subst, ⊎_elim}
use Rattle.std.specs.Prelude.{MatchResult}
use Rattle.atomic_table.specs.Seated.{TableId}
use Rattle.disk_model.specs.Disk.{State}
use Rattle.disk_model.specs.Moments.{Clock}
use Rattle.retro_base.specs.declared.device.Device.{Device}
use Rattle.retro_base.specs.declared.device.Device.TheVariants.{Maplog, Pagelog}
use Rattle.retro_base.specs.declared.refusal.Refusal.{Refusal}
use Rattle.retro_base.specs.declared.refusal.Refusal.TheVariants.{DiskFault, OutOfMemory, Stopped}
use Rattle.retro_base.specs.declared.who.Who.{Who}
use Rattle.gate_log.specs.Cause.{IsDiskFault}
use Rattle.journal_book.specs.declared.work.Work.{Work}
use Rattle.archive.specs.Archive.{Running}
use Rattle.race_model.specs.declared.fault.Fault.{Fault}
use Rattle.race_model.specs.Vault.{Batch, batch_end}
use Rattle.store_core.specs.declared.desk_core.Core.{Core}
use Rattle.turn.specs.declared.view.Holding.{Holding}
use Rattle.turn.specs.Faults.{LAST, fault_times, vault_faults}
use Rattle.turn.specs.Seats.{held, mine}
use Rattle.store.specs.declared.carrying.Carried.{Carried}
use Rattle.store.specs.declared.carrying.Carried.TheVariants.{Entered, Laid}
use Rattle.store.specs.Carrying.{IsNotCarried}
use Rattle.store.specs.RoundCalls.{Offers}
use Rattle.store.specs.Rounds.{CarriesAtLast, CarriesIn, CopiesRound, CopyRefused, Done, EnteredIt, HasCopied, IsDone, IsNoted, LaidFirst, Passes, WasThere}
use Rattle.store.specs.Seats.{IsReady, Sat, Visits}
use Rattle.store.specs.Start.{vault_counts}
use Rattle.store.proofs.Committing.{more_told}
use Rattle.store.proofs.Finding.{told_maplog, told_pagelog}
use Rattle.store.proofs.Passing.{new_fault, passes_on, passes_quiet, passes_vault}
use Rattle.store.proofs.Reaching.{IsNewSince, RoundEnds, RoundRefused, ends_after}

pub not_disk : (why : Refusal) → ((d : Device) (c : ℕ) → why ≡ DiskFault d c → ⊥) → IsDiskFault why → ⊥
not_disk (DiskFault d c) none is = none d c refl
not_disk _ none is = is

module _ {D : Type 0} (is_honest : D → Type 0) (state : D → State) (faults : D → ℕ) (z : TableId) (remembers : Type 0) (clock : D → Clock) (batch : Batch) where
  abbrev pub In : Result Carried Fault → Sat D → Sat D → Type 0
  In = CarriesIn is_honest state faults z remembers clock batch

  abbrev pub AtLast : Result Carried Fault → Sat D → Sat D → Type 0
  AtLast = CarriesAtLast is_honest state faults z remembers clock batch

  -- what comes of the batch from there on comes of it from here on
  abbrev pub Leads : Sat D → Sat D → Type 0
  Leads s0 s1 = (r : Result Carried Fault) (s2 : Sat D) → AtLast r s1 s2 → AtLast r s0 s2

  pub leads_none : (s : Sat D) → Leads s s
  leads_none s = λ r s2 rest. rest

  pub leads_laid : (s0 s1 s2 : Sat D) → Leads s0 s1 → In (Ok Laid) s1 s2 → Leads s0 s2
  leads_laid s0 s1 s2 leads laid = λ r s3 rest. leads r s3 (LaidFirst s1 s2 s3 laid rest)

  pub leads_done : (s0 s1 s2 : Sat D) → Leads s0 s1 → (r : Result Carried Fault) → In r s1 s2 → IsDone r → AtLast r s0 s2
  leads_done s0 s1 s2 leads r last done = leads r s2 (Done s1 s2 last done)

  visit_passes : {r : Result Carried Fault} {s0 s1 : Sat D} → In r s0 s1 → Passes z s0 s1
  visit_passes {s0 = s0} {s1 = s1} c = passes_vault is_honest state faults z s0 s1 c.before c.after c.visited

  pub last_passes : {r : Result Carried Fault} {s0 s1 : Sat D} → AtLast r s0 s1 → Passes z s0 s1
  last_passes (Done old new c done) = visit_passes c
  last_passes (LaidFirst old laid new c more) = passes_on z old laid (visit_passes c) new (last_passes more)

  -- a batch that lies in its slots is not the end
  pub not_laid : {s0 s1 : Sat D} → AtLast (Ok Laid) s0 s1 → ⊥
  not_laid (Done old new c done) = done
  not_laid (LaidFirst old laid new c more) = not_laid more

  -- where it was entered, the seat has seen the vault hold it
  pub entered_held : {count : ℕ} {s0 s1 : Sat D} → AtLast (Ok (Entered count)) s0 s1 → (count ≡ batch_end batch) × (held s1 ≡ batch_end batch)
  entered_held (Done old new c done) = (c.carries.outcome.3, c.visited.held_is ∙ c.carries.outcome.2)
  entered_held (LaidFirst old laid new c more) = entered_held more

  -- ---- a refusal

  module _ (fault : Fault) where
    pub last_cause : {s0 s1 : Sat D} → AtLast (Err fault) s0 s1 → (a0 : Running D) × (a1 : Running D) × IsNotCarried faults batch a0 a1 fault.why
    last_cause (Done old new c done) = (c.before, c.after, c.carries.outcome)
    last_cause (LaidFirst old laid new c more) = last_cause more

    module _ (d : Device) (c : ℕ) (is : fault.why ≡ DiskFault d c) where
      -- the seat was told the fault
      told_in : (s0 s1 : Sat D) → c ≤ LAST → In (Err fault) s0 s1 → 0 < fault_times d c (mine s1).faults
      told_in s0 s1 small v = ⊎_elim
          (λ o. at Pagelog o.2.0 o.2.1 (told_pagelog Before After o.2.3 (subst (λ (n : ℕ). n ≤ LAST) o.2.1 small)))
          (λ o. at Maplog o.3.0 o.3.1 (told_maplog Before After o.3.3 (subst (λ (n : ℕ). n ≤ LAST) o.3.1 small)))
          (subst (IsNotCarried faults batch v.before v.after) is v.carries.outcome) where
            Before : Device → ℕ
            Before = vault_counts faults v.before

            After : Device → ℕ
            After = vault_counts faults v.after

            at : {n : ℕ} → (which : Device) → d ≡ which → c ≡ n → 0 < fault_times which n (vault_faults Before After) → 0 < fault_times d c (mine s1).faults
            at which same count told = subst (λ (h : Holding Work). 0 < fault_times d c h.faults) (sym v.visited.mine_is)
                (more_told (mine s0).faults _ d c (subst (λ (x : Device × ℕ). 0 < fault_times x.0 x.1 (vault_faults Before After)) (λ i. (sym same i, sym count i)) told))

      pub fault_told : {s0 s1 : Sat D} → c ≤ LAST → AtLast (Err fault) s0 s1 → 0 < fault_times d c (mine s1).faults
      fault_told small (Done old new v done) = told_in old new small v
      fault_told small (LaidFirst old laid new v more) = fault_told small more

      -- and it is new
      new_in : (s0 s1 : Sat D) → In (Err fault) s0 s1 → IsNewSince is_honest state faults z d c s1
      new_in s0 s1 v start e = ⊎_elim
          (λ o. new_fault faults Pagelog _ _ d c o.2 start (v.visited.later start (sym v.visited.same.opening ∙ e) Pagelog))
          (λ o. new_fault faults Maplog _ _ d c o.3 start (v.visited.later start (sym v.visited.same.opening ∙ e) Maplog))
          (subst (IsNotCarried faults batch v.before v.after) is v.carries.outcome)

      pub fault_new : {s0 s1 : Sat D} → AtLast (Err fault) s0 s1 → IsNewSince is_honest state faults z d c s1
      fault_new (Done old new v done) = new_in old new v
      fault_new (LaidFirst old laid new v more) = fault_new more

  module _ (who : Who) where
    -- nothing follows a refusal that tells no fault of a device
    pub unnoted : (why : Refusal) (s : Sat D) → (IsDiskFault why → ⊥) → IsNoted is_honest state faults z remembers clock who why s s
    unnoted (DiskFault d c) s none = absurd (none tt)
    unnoted _ s none = refl

    copied_passes : (s0 s1 : Sat D) → HasCopied is_honest state faults z remembers clock batch s0 s1 → Passes z s0 s1
    copied_passes s0 s1 (WasThere carries) = last_passes carries
    copied_passes s0 s1 (EnteredIt count middle carries acks) =
        let p = last_passes carries in
        passes_on z s0 middle p s1 (passes_quiet is_honest state faults z middle s1 acks.before acks.after p.ready acks.visited acks.does.ledger)

    refused_ends : (why : Refusal) (s0 s1 : Sat D) → CopyRefused is_honest state faults z remembers clock who batch why s0 s1 → RoundRefused is_honest state faults z who why s0 s1
    refused_ends why s0 s1 r = at why r.is r.noted where
      passes : Passes z s0 r.middle
      passes = last_passes r.carries

      quiet : s1 ≡ r.middle → Passes z s0 s1
      quiet same = subst (λ (s : Sat D). Passes z s0 s) (sym same) passes

      at : (why : Refusal) → r.fault.why ≡ why → IsNoted is_honest state faults z remembers clock who why r.middle s1 → RoundRefused is_honest state faults z who why s0 s1
      at (DiskFault d c) is notes = (
        record { middle = r.middle; passes = passes; visits = record { before = notes.before; after = notes.after; visited = notes.visited; does = notes.does.ledger } },
        λ start e. fault_new r.fault d c is r.carries start (sym notes.visited.same.opening ∙ e),
      )
      at (Stopped d c) is same = quiet same
      at OutOfMemory is same = quiet same
      at why is same = let cause = last_cause r.fault r.carries in absurd (subst (IsNotCarried faults batch cause.0 cause.1) is cause.2)

module _ {D : Type 0} (is_honest : D → Type 0) (state : D → State) (faults : D → ℕ) (z : TableId) (remembers : Type 0) (clock : D → Clock) (who : Who) (before batch : Batch) where
  abbrev pub Asks : Bool → Sat D → Sat D → Type 0
  Asks asked = Visits is_honest state faults z (Offers before batch asked)

  abbrev Copies : Result Bool Refusal → Sat D → Sat D → Type 0
  Copies = CopiesRound is_honest state faults z remembers clock who before batch

  module _ (s0 s1 : Sat D) (ready : IsReady z s0) where
    pub asks_passes : (asked : Bool) → Asks asked s0 s1 → Passes z s0 s1
    asks_passes asked v = passes_quiet is_honest state faults z s0 s1 v.before v.after ready v.visited (ap (λ (c : Core D). c.ledger) v.does.same)

    pub copies_none : Asks false s0 s1 → Copies (Ok false) s0 s1
    copies_none v = record { asked = false; middle = s1; asks = v; none = λ e. (refl, refl); some = λ e. absurd (cc e) }

    module _ (v : Asks true s0 s1) where
      pub copies_done : (s2 : Sat D) → HasCopied is_honest state faults z remembers clock batch s1 s2 → Copies (Ok true) s0 s2
      copies_done s2 done = record { asked = true; middle = s1; asks = v; none = λ e. absurd (cc e); some = λ e. (refl, done) }

      pub copies_refused : (why : Refusal) (s2 : Sat D) → CopyRefused is_honest state faults z remembers clock who batch why s1 s2 → Copies (Err why) s0 s2
      copies_refused why s2 refused = record { asked = true; middle = s1; asks = v; none = λ e. absurd (cc e); some = λ e. refused }

      pub passes_both : (s2 : Sat D) → Passes z s1 s2 → Passes z s0 s2
      passes_both s2 more = passes_on z s0 s1 (asks_passes true v) s2 more

  -- it leaves a fault's line at most
  pub copy_ends : (r : Result Bool Refusal) (s0 s1 : Sat D) → IsReady z s0 → Copies r s0 s1 → RoundEnds is_honest state faults z who r s0 s1
  copy_ends r s0 s1 ready round = at round.asked refl where
    first : Passes z s0 round.middle
    first = asks_passes s0 round.middle ready round.asked round.asks

    on : (r : Result Bool Refusal) → MatchResult r (λ more. (more ≡ true) × HasCopied is_honest state faults z remembers clock batch round.middle s1)
        (λ why. CopyRefused is_honest state faults z remembers clock who batch why round.middle s1) → RoundEnds is_honest state faults z who r round.middle s1
    on (Ok more) done = copied_passes is_honest state faults z remembers clock batch who round.middle s1 done.1
    on (Err why) refused = refused_ends is_honest state faults z remembers clock batch who why round.middle s1 refused

    at : (b : Bool) → round.asked ≡ b → RoundEnds is_honest state faults z who r s0 s1
    at true e = ends_after is_honest state faults z who r s0 round.middle s1 first (on r (round.some e))
    at false e = let n = round.none e in
        subst (λ (x : Result Bool Refusal). RoundEnds is_honest state faults z who x s0 s1) (sym n.0) (subst (λ (s : Sat D). Passes z s0 s) (sym n.1) first)
