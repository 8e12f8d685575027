-- What a write round leaves.
use Rattle.std.proofs.Common.{◌≡◌, ◌≤◌, ◌+◌, ◌-◌, ◌/◌, ◌⊎◌, ◌∙◌, ℕ, Bool, true, false, Some, Result, Ok, Err, refl, sym, ap, subst, inl, inr, ⊎_elim}
use Rattle.std.specs.Prelude.{IfErr, MatchResult}
use Rattle.std.proofs.lemmas.Bool.{cases_lt}
use Rattle.atomic_table.specs.Seated.{TableId}
use Rattle.disk_model.specs.Disk.{State}
use Rattle.disk_model.specs.Moments.{Clock}
use Rattle.retro_base.specs.Cause.{IsFault}
use Rattle.retro_base.specs.declared.device.Device.{Device}
use Rattle.retro_base.specs.declared.device.Device.TheVariants.{Log, Pages}
use Rattle.retro_base.specs.declared.limits.TheConstants.{BATCH, LOG_REGION_BYTES}
use Rattle.retro_base.specs.declared.refusal.Refusal.{Refusal}
use Rattle.retro_base.specs.declared.refusal.Refusal.TheVariants.{DiskFault, OutOfMemory, Stopped}
use Rattle.retro_base.specs.declared.who.Who.{Who}
use Rattle.gate_log.specs.Cause.{IsDiskFault}
use Rattle.redo_log.specs.Cause.{IsMemoryOrFault}
use Rattle.desk.specs.Cause.{IsWriteRefusal}
use Rattle.store_core.specs.declared.desk_core.Core.{Core}
use Rattle.turn.specs.Seats.{opening}
use Rattle.store.specs.declared.desk_side.DeskSide.{DeskSide}
use Rattle.store.specs.declared.start.Start.{Start}
use Rattle.store.specs.RoundCalls.{CutDoes, CutsBelow, HasServed, SettleDoes, WriteBackDoes, free_bytes}
use Rattle.store.specs.Rounds.{All, Cutting, HasCut, HasSettled, HasWritten, HasWrittenAll, Many, Nothing, OneMore, Passes, Settling, WriteRefused, WritesNoMore, WritesRound, Writing}
use Rattle.store.specs.Seats.{IsReady, Sat, Visited, Visits}
use Rattle.store.specs.Start.{opened_counts}
use Rattle.store.proofs.Finding.{some_is}
use Rattle.store.proofs.Passing.{new_fault, passes_none, passes_on, passes_quiet}
use Rattle.store.proofs.Reaching.{IsNewSince, RoundEnds, RoundRefused, ends_after}

fault_alone : (device : Device) (before now : ℕ) (why : Refusal) → IsFault device before now why → IsDiskFault why ⊎ (why ≡ OutOfMemory)
fault_alone device before now (DiskFault d c) f = inl tt
fault_alone device before now _ f = absurd f

memory_or_fault : (device : Device) (before now : ℕ) (why : Refusal) → IsMemoryOrFault device before now why → IsDiskFault why ⊎ (why ≡ OutOfMemory)
memory_or_fault device before now (DiskFault d c) f = inl tt
memory_or_fault device before now OutOfMemory f = inr refl
memory_or_fault device before now _ f = absurd f

on_err : {T : Type 0} (r : Result T Refusal) (P : Type 0) (Q : Refusal → Type 0) → MatchResult r (λ _. P) Q → IfErr r Q
on_err (Ok x) P Q m = tt
on_err (Err why) P Q m = m

module _ {D : Type 0} (is_honest : D → Type 0) (state : D → State) (faults : D → ℕ) (z : TableId) (who : Who) where
  module _ (s0 s1 : Sat D) (ready : IsReady z s0) (d0 d1 : DeskSide D) (v : Visited is_honest state faults z s0 s1 d0 d1) where
    quiet : d1.core.ledger ≡ d0.core.ledger → Passes z s0 s1
    quiet same = passes_quiet is_honest state faults z s0 s1 d0 d1 ready v same

    -- a fault of a device of the desk is new
    desk_fault : (device : Device) (before later : ℕ) → ((start : Start D) → opening s1 ≡ Some start → opened_counts faults start device ≤ before) → (d : Device) (c : ℕ) → IsFault device before later (DiskFault d c) → IsNewSince is_honest state faults z d c s1
    desk_fault device before later low d c f start e = new_fault faults device before later d c f start (low start e)

    start_is : (start : Start D) → opening s1 ≡ Some start → d0.start ≡ start
    start_is start e = some_is d0.start start (sym v.opening ∙ (sym v.same.opening ∙ e))

    page_fault : (d : Device) (c : ℕ) → IsFault Pages (faults d0.core.desk.pool.file.disk) (faults d1.core.desk.pool.file.disk) (DiskFault d c) → IsNewSince is_honest state faults z d c s1
    page_fault = desk_fault Pages _ _ (λ start e. subst (λ (x : Start D). faults x.core.value.desk.pool.file.disk ≤ faults d0.core.desk.pool.file.disk) (start_is start e) (v.keeps.later Pages))

    log_fault : (d : Device) (c : ℕ) → IsFault Log (faults d0.core.desk.log.disk) (faults d1.core.desk.log.disk) (DiskFault d c) → IsNewSince is_honest state faults z d c s1
    log_fault = desk_fault Log _ _ (λ start e. subst (λ (x : Start D). faults x.core.value.desk.log.disk ≤ faults d0.core.desk.log.disk) (start_is start e) (v.keeps.later Log))

    -- a visit of a worker ends its round so
    pub served_ends : {T : Type 0} (IsOwn : Refusal → Type 0) → ((why : Refusal) → IsOwn why → IsDiskFault why ⊎ (why ≡ OutOfMemory))
        → ((d : Device) (c : ℕ) → IsOwn (DiskFault d c) → IsNewSince is_honest state faults z d c s1) → (r : Result T Refusal) → HasServed who d0.core d1.core r → IfErr r (IsWriteRefusal d0.core.desk.stop IsOwn)
        → RoundEnds is_honest state faults z who r s0 s1
    served_ends IsOwn only is_new (Ok x) ledger cause = quiet ledger
    served_ends IsOwn only is_new (Err (DiskFault d c)) ledger cause = (record { middle = s0; passes = passes_none z s0 ready; visits = record { before = d0; after = d1; visited = v; does = ledger } }, is_new d c cause.1)
    served_ends IsOwn only is_new (Err (Stopped d c)) ledger cause = quiet ledger
    served_ends IsOwn only is_new (Err OutOfMemory) ledger cause = quiet ledger
    served_ends IsOwn only is_new (Err why) ledger cause = ⊎_elim (λ x. absurd x) (λ e. absurd (cc e)) (only why cause.1)

  module _ (remembers : Type 0) (clock : D → Clock) (s0 s1 : Sat D) (ready : IsReady z s0) where
    pub wrote_ends : (r : Result Bool Refusal) → Visits is_honest state faults z (WriteBackDoes is_honest state faults remembers clock who r) s0 s1 → RoundEnds is_honest state faults z who r s0 s1
    wrote_ends r v = served_ends s0 s1 ready v.before v.after v.visited (IsFault Pages (faults v.before.core.desk.pool.file.disk) (faults v.after.core.desk.pool.file.disk)) (fault_alone Pages _ _) (page_fault s0 s1 ready v.before v.after v.visited) r v.does.ledger (on_err r _ _ v.does.cause)

    pub settled_ends : (r : Result (Unit {0}) Refusal) → Visits is_honest state faults z (SettleDoes is_honest state faults remembers clock who r) s0 s1 → RoundEnds is_honest state faults z who r s0 s1
    settled_ends r v = served_ends s0 s1 ready v.before v.after v.visited (IsFault Pages (faults v.before.core.desk.pool.file.disk) (faults v.after.core.desk.pool.file.disk)) (fault_alone Pages _ _) (page_fault s0 s1 ready v.before v.after v.visited) r v.does.ledger (on_err r _ _ v.does.cause)

    pub cut_ends : (r : Result Bool Refusal) → Visits is_honest state faults z (CutDoes is_honest state faults remembers clock who r) s0 s1 → RoundEnds is_honest state faults z who r s0 s1
    cut_ends r v = served_ends s0 s1 ready v.before v.after v.visited (IsMemoryOrFault Log (faults v.before.core.desk.log.disk) (faults v.after.core.desk.log.disk)) (memory_or_fault Log _ _) (log_fault s0 s1 ready v.before v.after v.visited) r v.does.ledger (on_err r _ _ v.does.cause)

    pub below_ends : (bytes : ℕ) (r : Result Bool Refusal) → Visits is_honest state faults z (CutsBelow is_honest state faults remembers clock who bytes r) s0 s1 → RoundEnds is_honest state faults z who r s0 s1
    below_ends bytes r v = ⊎_elim (λ lt. cut_ends r (record { before = v.before; after = v.after; visited = v.visited; does = v.does.short lt })) (λ le. enough r (v.does.enough le)) (cases_lt (free_bytes v.before.core) bytes) where
      enough : (r : Result Bool Refusal) → (r ≡ Ok true) × (v.after.core ≡ v.before.core) → RoundEnds is_honest state faults z who r s0 s1
      enough (Ok x) e = passes_quiet is_honest state faults z s0 s1 v.before v.after ready v.visited (ap (λ (c : Core D). c.ledger) e.1)
      enough (Err why) e = absurd (cc e.0)

module _ {D : Type 0} (is_honest : D → Type 0) (state : D → State) (faults : D → ℕ) (z : TableId) (remembers : Type 0) (clock : D → Clock) (who : Who) where
  abbrev pub Writes : Result Bool Refusal → Sat D → Sat D → Type 0
  Writes r = Visits is_honest state faults z (WriteBackDoes is_honest state faults remembers clock who r)

  abbrev pub Written : ℕ → Sat D → Sat D → Type 0
  Written = HasWritten is_honest state faults z remembers clock who

  abbrev pub WrittenAll : Sat D → Sat D → Type 0
  WrittenAll = HasWrittenAll is_honest state faults z remembers clock who

  abbrev pub NoMore : Result Bool Refusal → Sat D → Sat D → Type 0
  NoMore = WritesNoMore is_honest state faults z remembers clock who

  abbrev pub Rounds : Result Bool Refusal → Sat D → Sat D → Type 0
  Rounds = WritesRound is_honest state faults z remembers clock who

  pub none_written : (s : Sat D) → Written 0 s s
  none_written s = Nothing s

  pub one_written : (count : ℕ) (old middle new : Sat D) → Written count old middle → Writes (Ok true) middle new → Written (count + 1) old new
  one_written count old middle new written v = OneMore count old middle new written v

  pub many_written : (count : ℕ) (old new : Sat D) → count ≡ BATCH - 1 → Written count old new → WrittenAll old new
  many_written count old new same written = Many (subst (λ (n : ℕ). Written n old new) same written)

  -- ---- what is left

  pub written_passes : {count : ℕ} {s0 s1 : Sat D} → Written count s0 s1 → IsReady z s0 → Passes z s0 s1
  written_passes (Nothing s) ready = passes_none z s ready
  written_passes (OneMore count old middle new written v) ready =
      let p = written_passes written ready in
      passes_on z old middle p new (wrote_ends is_honest state faults z who remembers clock middle new p.ready (Ok true) v)

  module _ (s0 s1 : Sat D) (ready : IsReady z s0) where
    pub more_ends : (r : Result Bool Refusal) → NoMore r s0 s1 → RoundEnds is_honest state faults z who r s0 s1
    more_ends r more =
        let p = written_passes more.written ready in
        ends_after is_honest state faults z who r s0 more.middle s1 p (wrote_ends is_honest state faults z who remembers clock more.middle s1 p.ready r more.answers)

    pub all_passes : WrittenAll s0 s1 → Passes z s0 s1
    all_passes (Many written) = written_passes written ready
    all_passes (All more) = more_ends (Ok false) more

  module _ (s0 s1 : Sat D) (ready : IsReady z s0) where
    pub settling_ends : (r : Result (Unit {0}) Refusal) → HasSettled is_honest state faults z remembers clock who r s0 s1 → RoundEnds is_honest state faults z who r s0 s1
    settling_ends r has =
        let p = all_passes s0 has.all ready has.writes in
        ends_after is_honest state faults z who r s0 has.all s1 p (settled_ends is_honest state faults z who remembers clock has.all s1 p.ready r has.settles)

  module _ (s0 s1 : Sat D) (ready : IsReady z s0) where
    pub cutting_ends : (r : Result Bool Refusal) → HasCut is_honest state faults z remembers clock who r s0 s1 → RoundEnds is_honest state faults z who r s0 s1
    cutting_ends r has =
        let p = settling_ends s0 has.middle ready (Ok tt) has.settled in
        ends_after is_honest state faults z who r s0 has.middle s1 p (below_ends is_honest state faults z who remembers clock has.middle s1 p.ready (LOG_REGION_BYTES / 2) r has.cuts)

    refused_ends : (why : Refusal) → WriteRefused is_honest state faults z remembers clock who why s0 s1 → RoundRefused is_honest state faults z who why s0 s1
    refused_ends why (Writing more) = more_ends s0 s1 ready (Err why) more
    refused_ends why (Settling has) = settling_ends s0 s1 ready (Err why) has
    refused_ends why (Cutting has) = cutting_ends (Err why) has

  -- ---- a round

  module _ (s0 s1 : Sat D) where
    pub round_none : Writes (Ok false) s0 s1 → Rounds (Ok false) s0 s1
    round_none v = record { asked = Ok false; middle = s1; asks = v; none = λ e. (refl, refl); refused = λ why e. absurd (cc e); some = λ e. absurd (cc e) }

    pub round_refused : (why : Refusal) → Writes (Err why) s0 s1 → Rounds (Err why) s0 s1
    round_refused why v = record { asked = Err why; middle = s1; asks = v; none = λ e. absurd (cc e); refused = λ because e. (e, refl); some = λ e. absurd (cc e) }

    module _ (v : Writes (Ok true) s0 s1) where
      -- a later visit was refused
      pub round_fails : (why : Refusal) (s2 : Sat D) → WriteRefused is_honest state faults z remembers clock who why s1 s2 → Rounds (Err why) s0 s2
      round_fails why s2 fails = record { asked = Ok true; middle = s1; asks = v; none = λ e. absurd (cc e); refused = λ because e. absurd (cc e); some = λ e. fails }

      pub round_done : (s2 : Sat D) (was_cut : Bool) → HasCut is_honest state faults z remembers clock who (Ok was_cut) s1 s2 → Rounds (Ok true) s0 s2
      round_done s2 was_cut has = record { asked = Ok true; middle = s1; asks = v; none = λ e. absurd (cc e); refused = λ because e. absurd (cc e); some = λ e. (refl, was_cut, has) }

  -- it leaves a fault's line at most
  pub round_ends : (r : Result Bool Refusal) (s0 s1 : Sat D) → IsReady z s0 → Rounds r s0 s1 → RoundEnds is_honest state faults z who r s0 s1
  round_ends r s0 s1 ready round = at round.asked refl where
    first : (a : Result Bool Refusal) → round.asked ≡ a → RoundEnds is_honest state faults z who a s0 round.middle
    first a e = subst (λ (x : Result Bool Refusal). RoundEnds is_honest state faults z who x s0 round.middle) e (wrote_ends is_honest state faults z who remembers clock s0 round.middle ready round.asked round.asks)

    moved : (a : Result Bool Refusal) → r ≡ a → s1 ≡ round.middle → RoundEnds is_honest state faults z who a s0 round.middle → RoundEnds is_honest state faults z who r s0 s1
    moved a e same ends = subst (λ (x : Result Bool Refusal). RoundEnds is_honest state faults z who x s0 s1) (sym e) (subst (λ (s : Sat D). RoundEnds is_honest state faults z who a s0 s) (sym same) ends)

    on : (r : Result Bool Refusal) → IsReady z round.middle → MatchResult r (λ more. (more ≡ true) × (was_cut : Bool) × HasCut is_honest state faults z remembers clock who (Ok was_cut) round.middle s1)
        (λ why. WriteRefused is_honest state faults z remembers clock who why round.middle s1) → RoundEnds is_honest state faults z who r round.middle s1
    on (Ok more) here done = cutting_ends round.middle s1 here (Ok done.1) done.2
    on (Err why) here fails = refused_ends round.middle s1 here why fails

    at : (a : Result Bool Refusal) → round.asked ≡ a → RoundEnds is_honest state faults z who r s0 s1
    at (Ok true) e = let p = first (Ok true) e in ends_after is_honest state faults z who r s0 round.middle s1 p (on r p.ready (round.some e))
    at (Ok false) e = let n = round.none e in moved (Ok false) n.0 n.1 (first (Ok false) e)
    at (Err why) e = let n = round.refused why e in moved (Err why) n.0 n.1 (first (Err why) e)
