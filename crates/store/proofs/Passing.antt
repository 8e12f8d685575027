-- Seats that go to the desk and to the vault, and leave nothing of their own.
use Rattle.std.proofs.Common.{◌≡◌, ◌≤◌, ◌∙◌, ◌++◌, ℕ, true, false, min, List, [], ◌∷◌, length, take, Option, Some, None, Result, refl, sym, ap, subst, arith, append-nil}
use Rattle.std.specs.Prelude.{is_some}
use Rattle.std.proofs.lemmas.List.{length-map, length-take, take-map, take_min}
use Rattle.atomic_table.specs.Seated.{TableId}
use Rattle.disk_model.specs.Disk.{State}
use Rattle.disk_model.specs.Moments.{Clock}
use Rattle.retro_base.specs.Cause.{IsFault}
use Rattle.retro_base.specs.declared.device.Device.{Device}
use Rattle.retro_base.specs.declared.device.Device.TheVariants.{Log, Pages, Pagelog, Maplog, Cabinet}
use Rattle.retro_base.specs.declared.refusal.Refusal.TheVariants.{DiskFault}
use Rattle.retro_base.specs.declared.limits.TheConstants.{BATCH}
use Rattle.retro_base.specs.declared.who.Who.{Who}
use Rattle.history.specs.declared.entry.Base.{Base}
use Rattle.history.specs.declared.journal.FailedCall.TheVariants.{Write}
use Rattle.history.specs.declared.journal.Line.{Line}
use Rattle.history.specs.declared.journal.What.TheVariants.{Fault}
use Rattle.history.specs.declared.writes.PageImage.{PageImage}
use Rattle.history.specs.History.{History, now}
use Rattle.history.specs.Lines.{lines_of}
use Rattle.history.specs.Marks.{oldest_start}
use Rattle.history.specs.Sound.{IsSound}
use Rattle.journal_book.specs.declared.work.Work.{Work}
use Rattle.journal_book.specs.Works.{work_at}
use Rattle.archive.specs.Archive.{Running}
use Rattle.race_model.specs.Fits.{BatchFits}
use Rattle.race_model.specs.Machine.{MayTake, batch_of}
use Rattle.race_model.specs.declared.fault.Fault.{Fault as VaultFault}
use Rattle.race_model.specs.Vault.{Batch, batch_end}
use Rattle.race_model.proofs.Apart.{all_outlive_lines}
use Rattle.race_model.proofs.Sending.{batch_fits}
use Rattle.desk.specs.Desk.{pending_of}
use Rattle.desk.specs.Steps.{next_of}
use Rattle.desk.proofs.Steps.{counted}
use Rattle.txn_set.specs.Ledger.{MayFault}
use Rattle.txn_set.specs.WorksFit.{Closes}
use Rattle.store_core.specs.Calls.{MayRecord}
use Rattle.turn.specs.Seats.{MayLeaveVault, held, mine, opening, seen}
use Rattle.store.specs.declared.desk_side.DeskSide.{DeskSide}
use Rattle.store.specs.declared.start.Start.{Start}
use Rattle.store.specs.declared.carrying.Carried.{Carried}
use Rattle.store.specs.Carrying.{Carries, IsBatchIn, MayCarry}
use Rattle.store.specs.Rounds.{IsBatchAt, MayServe, Passes}
use Rattle.store.specs.Seats.{HasEntered, HasEnteredVault, IsReady, IsWhole, Sat, Visited, VisitedVault, Waits, journal, slots_of}
use Rattle.store.specs.Sides.{of_vault}
use Rattle.store.specs.Start.{IsAbove, opened_base, opened_counts, vault_counts}
use Rattle.store.specs.Workers.{IsFreshWorker, has_fault}
use Rattle.store.proofs.Finding.{above_so, some_is}
use Rattle.store.proofs.Leaving.{sound_journal}
use Rattle.store.proofs.Meeting.{whole_stays, work_stays}
use Rattle.store.proofs.Recalling.{lines_append, stays_glance, stays_on, waits_glance, waits_on}
use Rattle.store.proofs.Workers.{worker_place}

-- ---- one behind the other

module _ {D : Type 0} (z : TableId) (s0 s1 : Sat D) (passes : Passes z s0 s1) where
  pub passes_on : (s2 : Sat D) → Passes z s1 s2 → Passes z s0 s2
  passes_on s2 more = record { ready = more.ready; stays = stays_on s0 s1 s2 passes.stays more.stays; waits = waits_on s0 s1 s2 passes.stays.same.number passes.waits more.waits }

  pub passes_whole : IsWhole s0 → IsWhole s1
  passes_whole whole = whole_stays s0 s1 passes.stays whole

  pub serve_on : (who : Who) → MayServe s0 who → MayServe s1 who
  serve_on who serve =
      let work = work_stays s0 s1 passes.stays in
      record {
        closes = λ d c. subst (λ (w : Option Work). Closes who (Fault d c Write) w) (sym work) (serve.closes d c);
        worker = λ none.
            let was = serve.worker (sym work ∙ none) in
            let lines : lines_of s0.number (seen s1) ≡ lines_of s0.number (seen s0) =
            ap (lines_of s0.number) (sym passes.waits.front) ∙ (lines_append s0.number (seen s0) passes.waits.others ∙ (ap (λ (l : List Line). lines_of s0.number (seen s0) ++ l) passes.waits.apart ∙ append-nil (lines_of s0.number (seen s0)))) in
            subst (λ (n : ℕ). IsFreshWorker n (seen s1)) (sym passes.stays.same.number) (was.0, ap has_fault lines ∙ was.1);
      }

module _ {D : Type 0} (is_honest : D → Type 0) (state : D → State) (faults : D → ℕ) (z : TableId) (s0 s1 : Sat D) where
  -- a visit to the desk that tells nothing
  pub passes_quiet : (d0 d1 : DeskSide D) → IsReady z s0 → Visited is_honest state faults z s0 s1 d0 d1 → d1.core.ledger ≡ d0.core.ledger → Passes z s0 s1
  passes_quiet d0 d1 ready v quiet = record {
    ready = v.ready;
    stays = stays_glance is_honest state faults z s0 s1 d0 d1 ready v quiet;
    waits = waits_glance is_honest state faults z s0 s1 d0 d1 ready v quiet;
  }

  -- a visit to the vault
  pub passes_vault : (a0 a1 : Running D) → VisitedVault is_honest state faults z s0 s1 a0 a1 → Passes z s0 s1
  passes_vault a0 a1 v = record { ready = v.ready; stays = record { same = v.same; rises = v.rises; more = _; mine_is = v.mine_is }; waits = v.waits }

pub passes_none : {D : Type 0} (z : TableId) (s : Sat D) → IsReady z s → Passes z s s
passes_none z s ready = record {
  ready = ready;
  stays = record { same = record { id = refl; number = refl; opening = refl }; rises = omega arith; more = []; mine_is = ap (λ (fs : List (Device × ℕ)). record (mine s) { faults = fs }) (sym (append-nil (mine s).faults)) };
  waits = record { others = []; front = append-nil (seen s); apart = refl };
}

-- ---- a fault finds its line

some_none : (w : Option Work) → is_some w ≡ false → w ≡ None
some_none None e = refl
some_none (Some w) e = absurd (cc e)

module _ {D : Type 0} (is_honest : D → Type 0) (state : D → State) (faults : D → ℕ) (z : TableId) (s0 s1 : Sat D) (d0 : DeskSide D) (entered : HasEntered is_honest state faults z s0 s1 d0) (who : Who) (own : who.session ≡ s0.number) (serve : MayServe s0 who) where
  work_here : (mine s0).work ≡ work_at (slots_of d0) who.session
  work_here = entered.work ∙ ap (work_at (slots_of d0)) (sym own)

  pub fresh_there : is_some (work_at (slots_of d0) who.session) ≡ false → IsFreshWorker who.session (journal d0)
  fresh_there none =
      let was = serve.worker (work_here ∙ some_none (work_at (slots_of d0) who.session) none) in
      let lines : lines_of s0.number (journal d0) ≡ lines_of s0.number (seen s0) = sym entered.lines ∙ entered.ready.lines in
      subst (λ (n : ℕ). IsFreshWorker n (journal d0)) (sym own) (was.0, ap has_fault lines ∙ was.1)

  pub closes_there : (d : Device) (c : ℕ) → Closes who (Fault d c Write) (work_at (slots_of d0) who.session)
  closes_there d c = subst (λ (w : Option Work). Closes who (Fault d c Write) w) work_here (serve.closes d c)

  pub fault_there : MayFault who d0.core.ledger
  fault_there none = worker_place who d0.core.ledger (fresh_there none) entered.keeps.workers

  pub may_record : MayRecord who d0.core.ledger
  may_record = (fault_there, closes_there)

-- ---- a batch that the desk offered

module _ {D : Type 0} (is_honest : D → Type 0) (state : D → State) (start : Start D) where
  -- it is one behind more lines
  pub batch_on : (lines more : List Line) (most : ℕ) (batch : Batch) → IsSound (opened_base start) (lines ++ more) → IsBatchIn is_honest state start lines most batch → (up : ℕ) → most ≤ up → IsBatchIn is_honest state start (lines ++ more) up batch
  batch_on lines more most batch sound is up le = record {
    some = is.some;
    few = is.few;
    known = let k = is.known in omega (arith, k, le);
    origin = is.origin;
    opened = is.opened;
    fits = λ other op.
        let b = is.fits other op in
        record {
          images = b.images;
          pages = b.pages;
          bytes = b.bytes;
          fits = all_outlive_lines.batch (record batch { images = b.images }) other.history lines more op.fits.consistent (subst (λ (x : Base). IsSound x (lines ++ more)) (sym op.base) sound) b.fits;
        };
  }

pub batch_at_on : {D : Type 0} (is_honest : D → Type 0) (state : D → State) (s0 s1 : Sat D) (batch : Batch) → opening s1 ≡ opening s0 → Waits s0 s1 → held s0 ≤ held s1
    → ((start : Start D) → opening s0 ≡ Some start → IsSound (opened_base start) (seen s1)) → IsBatchAt is_honest state s0 batch → IsBatchAt is_honest state s1 batch
batch_at_on is_honest state s0 s1 batch same waits up sound is start e =
    let e0 = sym same ∙ e in
    subst (λ (l : List Line). IsBatchIn is_honest state start l (held s1) batch) waits.front
    (batch_on is_honest state start (seen s0) waits.others (held s0) batch (subst (λ (l : List Line). IsSound (opened_base start) l) (sym waits.front) (sound start e0)) (is start e0) (held s1) up)

module _ {D : Type 0} (is_honest : D → Type 0) (state : D → State) (faults : D → ℕ) (z : TableId) (s0 s1 : Sat D) (d0 : DeskSide D) (v : Visited is_honest state faults z s0 s1 d0 d0) (some : 1 ≤ length d0.core.desk.queue.images) where
  abbrev Next : Batch
  Next = next_of d0.core.desk.base d0.core.desk.queue

  offered_in : IsBatchIn is_honest state d0.start (journal d0) (held s1) Next
  offered_in = record {
    some = let t = length-take BATCH d0.core.desk.queue.images in omega (arith, some, t);
    few = let t = length-take BATCH d0.core.desk.queue.images in omega (arith, t);
    known = v.acked;
    origin = v.stands.origin;
    opened = v.stands.opened;
    fits = λ other op.
        let from_ = v.stands.stands other op in
        let is = from_.is.is in
        let pending : List PageImage = pending_of from_.plain in
        let count : ℕ = min BATCH (length pending) in
        let length_is : length d0.core.desk.queue.images ≡ length pending =
        sym (length-map d0.core.desk.queue.images (λ (i : PageImage). i.page)) ∙ (ap length is.pending ∙ length-map pending (λ (i : PageImage). i.page)) in
        let all = counted is_honest state d0.core.desk from_.plain is from_.is.fits in
        let may : MayTake from_.plain count = record {
          some = omega (arith, some, length_is);
          few = omega arith;
          there = let f = is.first in let b = ap (λ (x : Base). x.captures) is.base in omega (arith, all, f, b, length_is);
        } in
        let images : List PageImage = take BATCH pending in
        let same : take count pending ≡ images = take_min BATCH pending in
        let made : batch_of from_.plain count ≡ record Next { images = images } = λ i. record {
          first = sym is.first i;
          low = min (oldest_start (sym is.base i).marks) (sym is.first i);
          images = same i;
        } in
        record {
          images = images;
          pages = sym (take-map (λ (i : PageImage). i.page) BATCH pending) ∙ (ap (take BATCH) (sym is.pending) ∙ take-map (λ (i : PageImage). i.page) BATCH d0.core.desk.queue.images);
          bytes = λ honest. ap (take BATCH) (sym (is.bytes (v.stands.honest.pages.0 honest)));
          fits = subst (λ (h : History). BatchFits h (record Next { images = images })) from_.is.journal (subst (λ (b : Batch). BatchFits from_.plain.history b) made (batch_fits from_.plain from_.is.fits count may));
        };
  }

  pub offered_at : seen s1 ≡ journal d0 → (batch : Batch) → batch ≡ Next → IsBatchAt is_honest state s1 batch
  offered_at sees batch is start e =
      let same : d0.start ≡ start = some_is d0.start start (sym v.opening ∙ (sym v.same.opening ∙ e)) in
      subst (λ (l : List Line). IsBatchIn is_honest state start l (held s1) batch) (sym sees)
      (subst (λ (b : Batch). IsBatchIn is_honest state start (journal d0) (held s1) b) (sym is) (subst (λ (x : Start D). IsBatchIn is_honest state x (journal d0) (held s1) Next) same offered_in))

-- a fault of a device that had had no fewer faults than at the opening
pub new_fault : {D : Type 0} (faults : D → ℕ) (device : Device) (before later : ℕ) (d : Device) (c : ℕ) → IsFault device before later (DiskFault d c) → (start : Start D) → opened_counts faults start device ≤ before → IsAbove faults start d c
new_fault faults device before later d c f start low = subst (λ (x : Device). IsAbove faults start x c) (sym f.0) (λ less. above_so (opened_counts faults start device) before later c low f.3 f.1 less)

pub no_length : {X : Type 0} (xs : List X) → length xs ≡ 0 → xs ≡ []
no_length [] e = refl
no_length (x ∷ xs) e = absurd (omega (arith, e))

-- ---- the vault

pub opened_is : {X : Type 0} (o : Option X) → is_some o ≡ true → (x : X) × (o ≡ Some x)
opened_is (Some x) e = (x, refl)
opened_is None e = absurd (cc e)

pub vault_up : {D : Type 0} (faults : D → ℕ) (old new : Running D) → faults old.pagelog.disk ≤ faults new.pagelog.disk → faults old.side.disk ≤ faults new.side.disk → (d : Device) → vault_counts faults old d ≤ vault_counts faults new d
vault_up faults old new pagelog maplog Log = omega arith
vault_up faults old new pagelog maplog Pages = omega arith
vault_up faults old new pagelog maplog Pagelog = pagelog
vault_up faults old new pagelog maplog Maplog = maplog
vault_up faults old new pagelog maplog Cabinet = omega arith

module _ {D : Type 0} (is_honest : D → Type 0) (state : D → State) (faults : D → ℕ) (z : TableId) (s0 s1 : Sat D) (a0 : Running D) (entered : HasEnteredVault is_honest state faults z s0 s1 a0) (batch : Batch) (is : IsBatchAt is_honest state s0 batch) where
  pub batch_here : (start : Start D) → opening s0 ≡ Some start → IsBatchIn is_honest state start (seen s1) a0.side.held batch
  batch_here start e =
      let up : held s0 ≤ a0.side.held = let r = entered.rises in let h = entered.held_is in omega (arith, r, h) in
      subst (λ (l : List Line). IsBatchIn is_honest state start l a0.side.held batch) entered.front.1
      (batch_on is_honest state start (seen s0) entered.front.0 (held s0) batch (subst (λ (l : List Line). IsSound (opened_base start) l) (sym entered.front.1) (entered.sound start e)) (is start e) a0.side.held up)

  pub may_carry : MayCarry is_honest state a0 batch
  may_carry =
      let o = opened_is (opening s0) entered.ready.rests.seat.opened in
      record { start = o.0; lines = seen s1; stands = entered.stands o.0 o.1; sound = entered.sound o.0 o.1; is_batch = batch_here o.0 o.1 }

  module _ (remembers : Type 0) (clock : D → Clock) (a1 : Running D) (result : Result Carried VaultFault) (carries : Carries is_honest state faults remembers clock batch result a0 a1) where
    pub may_leave_vault : MayLeaveVault (of_vault is_honest state faults) (opening s1) (seen s1) a0 a1
    may_leave_vault = record {
      held = carries.held;
      counts = vault_up faults a0 a1 carries.pagelog carries.maplog;
      fits = λ start e. let e0 = sym entered.same.opening ∙ e in (
        carries.stands start (seen s1) (entered.stands start e0) (entered.sound start e0) (batch_here start e0),
        λ d. let a = entered.later start e0 d in let b = vault_up faults a0 a1 carries.pagelog carries.maplog d in omega (arith, a, b),
      );
    }

-- ---- what the vault holds may be acknowledged

module _ {D : Type 0} (is_honest : D → Type 0) (state : D → State) (faults : D → ℕ) (z : TableId) (s0 s1 : Sat D) (d0 : DeskSide D) (entered : HasEntered is_honest state faults z s0 s1 d0) (batch : Batch) (is : IsBatchAt is_honest state s0 batch) where
  pub end_there : batch_end batch ≤ d0.core.desk.base.captures
  end_there =
      let start = d0.start in
      let sound = sound_journal is_honest state d0 entered.stands in
      let here = subst (λ (l : List Line). IsBatchIn is_honest state start l (held s0) batch) entered.front.1
      (batch_on is_honest state start (seen s0) entered.front.0 (held s0) batch (subst (λ (l : List Line). IsSound (opened_base start) l) (sym entered.front.1) sound) (is start entered.opening) (held s0) (omega arith)) in
      let b = here.fits here.origin here.opened in
      let from_ = entered.stands.stands here.origin here.opened in
      let length_is : length b.images ≡ length batch.images = sym (length-map b.images (λ (i : PageImage). i.page)) ∙ (ap length b.pages ∙ length-map batch.images (λ (i : PageImage). i.page)) in
      let within = b.fits.within in
      let base = ap (λ (x : Base). x.captures) from_.is.is.base in
      let journal_is = ap (λ (h : History). (now h).base.captures) from_.is.journal in
      omega (arith, within, length_is, base, journal_is)
