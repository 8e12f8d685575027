-- Reads, edits, commits and rollbacks may be made in a visit to the desk.
use Rattle.std.proofs.Common.{◌≡◌, ◌≤◌, ◌<◌, ◌⊎◌, ◌∙◌, ℕ, Bool, true, false, cond, List, Option, Some, None, Result, Ok, Err, refl, sym, ap, subst, inl, inr, ⊎_elim, arith}
use Rattle.block_file.specs.Blocks.{File, SameFile}
use Rattle.std.specs.Prelude.{◌↔◌, IfErr, OnOk, MatchResult, option_map}
use Rattle.std.specs.Option.{option_or}
use Rattle.disk_model.specs.Disk.{State}
use Rattle.disk_model.specs.Moments.{Clock}
use Rattle.retro_base.specs.declared.device.Device.{Device}
use Rattle.retro_base.specs.declared.device.Device.TheVariants.{Pages}
use Rattle.retro_base.specs.declared.refusal.Refusal.{Refusal}
use Rattle.retro_base.specs.declared.refusal.Refusal.TheVariants.{DiskFault}
use Rattle.retro_base.specs.declared.refusal.Refusal.TheVariants as refusals
use Rattle.retro_base.specs.declared.who.Who.{Who}
use Rattle.history.specs.Lines.{changed_since}
use Rattle.journal_book.specs.declared.work.Transaction.{Transaction}
use Rattle.journal_book.specs.declared.work.Work.{Work}
use Rattle.journal_book.specs.declared.work.Work.TheVariants.{Open}
use Rattle.journal_book.specs.Works.{editing, keeping_refusal, latch_holder, reading, work_at}
use Rattle.desk.specs.declared.desk.RunningDesk.{RunningDesk}
use Rattle.redo_log.specs.Cause.{IsMemoryOrFault}
use Rattle.txn_set.specs.declared.ending.Ending.{Ending}
use Rattle.txn_set.specs.declared.ending.Ending.TheVariants as ending
use Rattle.txn_set.specs.declared.ledger.Ledger.{Ledger}
use Rattle.txn_set.specs.Ledger.{closing, is_kept, kept_behind, with_open}
use Rattle.txn_set.specs.Refused.{edit_refused, overlap, read_refused, too_many, where_so}
use Rattle.store_core.specs.declared.desk_core.Core.{Core}
use Rattle.store_core.specs.Calls.{HasAnswered}
use Rattle.store_core.specs.Core.{StaysCore}
use Rattle.turn.specs.Faults.{LAST, desk_faults, fault_times}
use Rattle.store.specs.declared.desk_side.DeskSide.{DeskSide}
use Rattle.retro_base.specs.Cause.{FaultsAlone}
use Rattle.store_core.specs.declared.copying.Peeked.{Peeked}
use Rattle.store.specs.Calls.{EditDoes, PeekDoes, ReadDoes, RollbackDoes}
use Rattle.store.specs.Seats.{CountFits, EndingIsTold, IsGlance, IsVisit, always, journal, slots_of}
use Rattle.store.specs.Sides.{DeskStands}
use Rattle.store.specs.Start.{AreAsHonest, desk_counts}
use Rattle.store.proofs.Adding.{adds_closed, adds_open, slot_own}
use Rattle.store.proofs.Calling.{IsClosed, closes, counts_up, fault_is, told_more, visit}
use Rattle.store.proofs.Leaving.{IsToldIn, may_leave_quiet, stands_stays}
use Rattle.store.proofs.Telling.{Told, keeps_open, told_pages}
use Rattle.store.proofs.Trying.{closing_ends, kept_who, same_attempt}

-- ---- refusals that tell no fault

abbrev pub TellsNoFault : Option Refusal → Type 0
TellsNoFault refused = (d : Device) (c : ℕ) → refused ≡ Some (DiskFault d c) → ⊥

-- what is kept goes before all else
pub kept_first : (kept rest : Option Refusal) → TellsNoFault rest → (d : Device) (c : ℕ) → option_or kept rest ≡ Some (DiskFault d c) → kept ≡ Some (DiskFault d c)
kept_first None rest none d c e = absurd (none d c e)
kept_first (Some why) rest none d c e = e

pub none_first : (one rest : Option Refusal) → TellsNoFault one → TellsNoFault rest → TellsNoFault (option_or one rest)
none_first None rest a b d c e = b d c e
none_first (Some why) rest a b d c e = a d c e

pub overlap_tells : (who : Option Who) → TellsNoFault (option_map overlap who)
overlap_tells None d c e = absurd (cc e)
overlap_tells (Some who) d c e = absurd (cc e)

pub where_tells : (test : Bool) (why : Refusal) → TellsNoFault (Some why) → TellsNoFault (where_so test why)
where_tells true why none = none
where_tells false why none = λ d c e. absurd (cc e)

read_tells : (lines : List _) (t : Transaction) (page : ℕ) (d : Device) (c : ℕ) → read_refused lines t page ≡ Some (DiskFault d c) → t.kept ≡ Some (DiskFault d c)
read_tells lines t page = kept_first t.kept (option_map overlap (changed_since t.who page t.began lines)) (overlap_tells (changed_since t.who page t.began lines))

edit_tells : (lines : List _) (slots : List (Option Work)) (t : Transaction) (page : ℕ) (d : Device) (c : ℕ) → edit_refused lines slots t page ≡ Some (DiskFault d c) → t.kept ≡ Some (DiskFault d c)
edit_tells lines slots t page =
    kept_first t.kept _ (none_first (option_map overlap (latch_holder t.who page slots)) _ (overlap_tells (latch_holder t.who page slots))
    (none_first (option_map overlap (changed_since t.who page t.began lines)) (too_many t page) (overlap_tells (changed_since t.who page t.began lines)) (where_tells _ _ (λ d c e. absurd (cc e)))))

-- ---- what a transaction keeps behind a refusal

pub kept_from : (why : Refusal) (t : Transaction) (d : Device) (c : ℕ) → (kept_behind why t).kept ≡ Some (DiskFault d c) → (t.kept ≡ Some (DiskFault d c)) ⊎ (why ≡ DiskFault d c)
kept_from why t d c e = at (is_kept why) e where
  at : (test : Bool) → (cond test (keeping_refusal why t) t).kept ≡ Some (DiskFault d c) → (t.kept ≡ Some (DiskFault d c)) ⊎ (why ≡ DiskFault d c)
  at true e = inr (cc e)
  at false e = inl e

-- a fault of the pages' device is told
pub page_told : {D : Type 0} (faults : D → ℕ) (old new : Core D) (d : Device) (c : ℕ) → c ≤ LAST → IsMemoryOrFault Pages (faults old.desk.pool.file.disk) (faults new.desk.pool.file.disk) (DiskFault d c)
    → 0 < fault_times d c (desk_faults (desk_counts faults old) (desk_counts faults new))
page_told faults old new d c few cause =
    let told = told_pages (desk_counts faults old) (desk_counts faults new) cause.3 (subst (λ (n : ℕ). n ≤ LAST) cause.1 few) in
    subst (λ (x : Device × ℕ). 0 < fault_times x.0 x.1 (desk_faults (desk_counts faults old) (desk_counts faults new))) (λ i. (sym cause.0 i, sym cause.1 i)) told

same_log : {D : Type 0} (is_honest : D → Type 0) (old new : Core D) → new.desk ≡ record old.desk { pool = new.desk.pool } → is_honest old.desk.log.disk ↔ is_honest new.desk.log.disk
same_log {D} is_honest old new rest = subst (λ (r : RunningDesk D). is_honest old.desk.log.disk ↔ is_honest r.log.disk) (sym rest) ((λ a. a), (λ a. a))

pub same_pages : {D : Type 0} (is_honest : D → Type 0) (old new : Core D) → new.desk.pool.file ≡ old.desk.pool.file → is_honest old.desk.pool.file.disk ↔ is_honest new.desk.pool.file.disk
same_pages {D} is_honest old new same = subst (λ (f : File D). is_honest old.desk.pool.file.disk ↔ is_honest f.disk) (sym same) ((λ a. a), (λ a. a))

-- a count of faults does not fall
cause_up : (before now : ℕ) (why : Refusal) → IsMemoryOrFault Pages before now why → before ≤ now
cause_up before now refusals.OutOfMemory e = let q = e in omega (arith, q)
cause_up before now (DiskFault d c) e = e.2
cause_up before now _ e = absurd e

module _ {D : Type 0} (is_honest : D → Type 0) (state : D → State) (faults : D → ℕ) (old new : DeskSide D) (start : new.start ≡ old.start) (stands : DeskStands is_honest state old) where
  peek_up : (before now : ℕ) (result : Result Peeked Refusal) → FaultsAlone Pages before now result → before ≤ now
  peek_up before now (Ok x) e = omega (arith, e)
  peek_up before now (Err (DiskFault d c)) e = e.2
  peek_up before now (Err _) e = absurd e

  pub peeks : {remembers : Type 0} {clock : D → Clock} (page snapshot : ℕ) (before after : List ℕ) (result : Result Peeked Refusal) → PeekDoes is_honest state faults remembers clock page snapshot before after result old.core new.core → IsGlance is_honest state faults old new
  peeks page snapshot before after result does = λ most mine keeps le.
      may_leave_quiet is_honest state old new start faults most mine
      (stands_stays is_honest state old new start does.stays (record { log = same_log is_honest old.core new.core does.rest; pages = does.same.honest }) stands) keeps
      (counts_up faults old.core new.core (let e = ap (λ (r : RunningDesk D). faults r.log.disk) does.rest in omega (arith, e)) (peek_up _ _ result does.cause)) does.ledger
      (subst (λ (k : ℕ). k ≤ most) (sym (ap (λ (r : RunningDesk D). r.queue.first) does.rest)) le)

module _ {D : Type 0} (is_honest : D → Type 0) (state : D → State) (faults : D → ℕ) (who : Who) (old new : DeskSide D) (start : new.start ≡ old.start) (stands : DeskStands is_honest state old) where
  pages_up : (refused : Option Refusal) (result : Result (Unit {0}) Refusal) → ((why : Refusal) → refused ≡ Some why → new.core.desk ≡ old.core.desk)
      → (refused ≡ None → MatchResult result (λ _. faults new.core.desk.pool.file.disk ≡ faults old.core.desk.pool.file.disk) (IsMemoryOrFault Pages (faults old.core.desk.pool.file.disk) (faults new.core.desk.pool.file.disk)))
      → faults old.core.desk.pool.file.disk ≤ faults new.core.desk.pool.file.disk
  pages_up None (Ok x) same cause = let e = cause refl in omega (arith, e)
  pages_up None (Err why) same cause = cause_up _ _ why (cause refl)
  pages_up (Some why) result same cause = let e = ap (λ (r : RunningDesk D). faults r.pool.file.disk) (same why refl) in omega (arith, e)

  answers : (t next : Transaction) (refused : Option Refusal) (result : Result (Unit {0}) Refusal) → new.core.desk ≡ record old.core.desk { pool = new.core.desk.pool } → StaysCore is_honest state old.core new.core → SameFile is_honest old.core.desk.pool.file new.core.desk.pool.file
      → HasAnswered who t next refused old.core.ledger new.core.ledger result → work_at (slots_of old) who.session ≡ Some (Open t) → next.kept ≡ t.kept → next.who ≡ t.who → CountFits result
      → ((why : Refusal) → refused ≡ Some why → (result ≡ Err why) × (new.core.desk ≡ old.core.desk)) → ((d : Device) (c : ℕ) → refused ≡ Some (DiskFault d c) → t.kept ≡ Some (DiskFault d c))
      → (refused ≡ None → MatchResult result (λ _. faults new.core.desk.pool.file.disk ≡ faults old.core.desk.pool.file.disk) (IsMemoryOrFault Pages (faults old.core.desk.pool.file.disk) (faults new.core.desk.pool.file.disk)))
      → IsVisit is_honest state faults who always old new
  answers t next refused result rest stays file answered there same who_is few is tells cause = go result refl where
    honest : AreAsHonest is_honest old.core new.core
    honest = record { log = same_log is_honest old.core new.core rest; pages = file.honest }

    log_up : faults old.core.desk.log.disk ≤ faults new.core.desk.log.disk
    log_up = let e = ap (λ (r : RunningDesk D). faults r.log.disk) rest in omega (arith, e)

    made : (u : Transaction) → u.who ≡ t.who → new.core.ledger ≡ with_open who u old.core.ledger → ((d : Device) (c : ℕ) → u.kept ≡ Some (DiskFault d c) → (t.kept ≡ Some (DiskFault d c)) ⊎ (0 < fault_times d c (Told is_honest state faults who always old new)))
        → IsVisit is_honest state faults who always old new
    made u of e from_ = visit is_honest state faults who always old new start (stands_stays is_honest state old new start stays honest stands)
        (counts_up faults old.core new.core log_up (pages_up refused result (λ why e. (is why e).1) cause)) (ap (λ (r : RunningDesk D). r.queue.first) rest)
        (λ mine own. adds_open who (IsToldIn _) old.core.ledger new.core.ledger u (λ tried. same_attempt (journal old) who.session (work_at (slots_of old) who.session) t u there of (tried.works who.session)) e)
        (λ mine own. keeps_open is_honest state faults who always old new mine own t u there (ap (λ (l : Ledger). work_at l.works.slots who.session) e ∙ slot_own (slots_of old) who.session _) (ap (λ (l : Ledger). l.book.lines) e) from_)

    -- a refusal that tells a fault
    new_fault : (why : Refusal) (d : Device) (c : ℕ) → result ≡ Err why → why ≡ DiskFault d c → (t.kept ≡ Some (DiskFault d c)) ⊎ (0 < fault_times d c (Told is_honest state faults who always old new))
    new_fault why d c r w = pick refused refl where
      pick : (x : Option Refusal) → refused ≡ x → (t.kept ≡ Some (DiskFault d c)) ⊎ (0 < fault_times d c (Told is_honest state faults who always old new))
      pick None e = inr (page_told faults old.core new.core d c (few d c (r ∙ ap Err w))
          (subst (λ (z : Result (Unit {0}) Refusal). MatchResult z (λ _. faults new.core.desk.pool.file.disk ≡ faults old.core.desk.pool.file.disk) (IsMemoryOrFault Pages (faults old.core.desk.pool.file.disk) (faults new.core.desk.pool.file.disk))) (r ∙ ap Err w) (cause e)))
      pick (Some because) e = inl (tells d c (e ∙ ap Some (cc ((is because e).0, r, w))))

    go : (r : Result (Unit {0}) Refusal) → result ≡ r → IsVisit is_honest state faults who always old new
    go (Ok x) e = made next who_is (subst (λ z. OnOk z ((refused ≡ None) × (new.core.ledger ≡ with_open who next old.core.ledger))) e answered.allowed).1 (λ d c k. inl (sym same ∙ k))
    go (Err why) e = made (kept_behind why t) (kept_who why t) (subst (λ z. IfErr z (λ w. new.core.ledger ≡ with_open who (kept_behind w t) old.core.ledger)) e answered.kept)
        (λ d c k. ⊎_elim (λ before. inl before) (λ w. new_fault why d c e w) (kept_from why t d c k))

  pub reads : {remembers : Type 0} {clock : D → Clock} (page : ℕ) (before after : List ℕ) (t : Transaction) (result : Result (Unit {0}) Refusal) → work_at (slots_of old) who.session ≡ Some (Open t) → CountFits result → ReadDoes is_honest state faults remembers clock who page before after t result old.core new.core
      → IsVisit is_honest state faults who always old new
  reads page before after t result there few does =
      answers t (reading page t) (read_refused old.core.ledger.book.lines t page) result does.rest does.stays does.same does.answered there refl refl few does.refused (read_tells old.core.ledger.book.lines t page) does.cause

  pub edits : {remembers : Type 0} {clock : D → Clock} (page : ℕ) (bytes : List ℕ) (t : Transaction) (result : Result (Unit {0}) Refusal) → work_at (slots_of old) who.session ≡ Some (Open t) → CountFits result → EditDoes is_honest state faults remembers clock who page bytes t result old.core new.core
      → IsVisit is_honest state faults who always old new
  edits page bytes t result there few does =
      answers t (editing (record { page = page; bytes = bytes }) t) (edit_refused old.core.ledger.book.lines old.core.ledger.works.slots t page) result does.rest does.stays does.same does.answered there refl refl few does.refused
      (edit_tells old.core.ledger.book.lines old.core.ledger.works.slots t page) does.cause

  -- the line that closes a transaction tells what its seat was told
  closing_told : (kept : Option Refusal) (why : Ending) (fs : List (Device × ℕ)) → ((d : Device) (c : ℕ) → kept ≡ Some (DiskFault d c) → 0 < fault_times d c fs) → EndingIsTold why fs → IsToldIn fs (closing kept why)
  closing_told (Some (refusals.Overlap session item)) why fs k t d c p = absurd (omega (arith, p))
  closing_told (Some (refusals.DiskFault device count)) why fs k t d c p = fault_is fs device count (k device count refl) d c p
  closing_told (Some _) why fs k t d c p = absurd (omega (arith, p))
  closing_told None ending.Asked fs k t d c p = absurd (omega (arith, p))
  closing_told None (ending.Refused why) fs k t d c p = absurd (omega (arith, p))
  closing_told None (ending.Failed device count) fs k t d c p = fault_is fs device count t d c p

  pub rolls_back : (why : Ending) (t : Transaction) → work_at (slots_of old) who.session ≡ Some (Open t) → RollbackDoes is_honest state who why t old.core new.core → IsVisit is_honest state faults who (EndingIsTold why) old new
  rolls_back why t there does = visit is_honest state faults who (EndingIsTold why) old new start (stands_stays is_honest state old new start does.stays (record { log = same_log is_honest old.core new.core does.rest; pages = same_pages is_honest old.core new.core does.file }) stands)
      (counts_up faults old.core new.core (let e = ap (λ (r : RunningDesk D). faults r.log.disk) does.rest in omega (arith, e)) (let e = ap (λ f. faults f.disk) does.file in omega (arith, e))) (ap (λ (r : RunningDesk D). r.queue.first) does.rest)
      (λ mine own. adds_closed who (IsToldIn _) old.core.ledger new.core.ledger (closing t.kept why)
      (λ d c p. told_more mine.faults _ d c (closing_told t.kept why mine.faults (λ e n k. own.kept t e n (own.work ∙ there) k) own.told d c p)) (λ tried. closing_ends (journal old) who t.kept why) does.closed)
      (closes is_honest state faults who old new start stands (EndingIsTold why) (subst IsClosed (sym (ap (λ (l : Ledger). work_at l.works.slots who.session) does.closed ∙ slot_own (slots_of old) who.session None)) tt))
