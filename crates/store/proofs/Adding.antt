-- What the calls add to the ledger: a line of one session, or none, and that session's work.
use Rattle.std.proofs.Common.{◌≡◌, ◌≢◌, ◌⊎◌, ◌∙◌, ℕ, Bool, true, false, cond, List, [], ◌∷◌, ◌++◌, Option, Some, None, refl, sym, ap, subst, inl, inr, ⊎_elim, ne_eqb, eq-eqb}
use Rattle.std.specs.Prelude.{is_some}
use Rattle.retro_base.specs.declared.device.Device.{Device}
use Rattle.retro_base.specs.declared.who.Who.{Who}
use Rattle.history.specs.declared.journal.FailedCall.{FailedCall}
use Rattle.history.specs.declared.journal.Line.{Line}
use Rattle.history.specs.declared.journal.What.{What}
use Rattle.history.specs.declared.journal.What.TheVariants as whats
use Rattle.history.specs.declared.writes.PageImage.{PageImage}
use Rattle.journal_book.specs.declared.work.Transaction.{Transaction}
use Rattle.journal_book.specs.declared.work.Work.{Work}
use Rattle.journal_book.specs.declared.work.Work.TheVariants.{Open, KeptDrop}
use Rattle.journal_book.specs.Book.{noting}
use Rattle.journal_book.specs.Works.{with_work, work_at}
use Rattle.journal_book.proofs.Slots.{work_at_with}
use Rattle.store.specs.Tried.{AllEndAttempts, AreTried, EndsAttempt, IsAttempt, is_trying}
use Rattle.store.specs.Workers.{IsFreshWorker, WorkersFit}
use Rattle.store_core.specs.Drops.{is_kept_drop, without_drop}
use Rattle.store.proofs.Trying.{attempt_other, ends_append, which}
use Rattle.store.proofs.Workers.{more_fits, noted_fits, same_fits}
use Rattle.txn_set.specs.declared.ledger.Ledger.{Ledger}
use Rattle.txn_set.specs.Ledger.{closed, committed, drop_kept, faulted, given_up, gives_up, keeping_drop, keeps_drop, keeps_other_drop, line_of, opened, taken, with_told_line, with_open}

-- lines with one more, of that session, which tells what it may
pub record OneLine (session : ℕ) (May : What → Type 0) (old new : List Line) : Type 0 where
  pub line : Line
  pub of : line.who.session ≡ session
  pub may : May line.what
  pub is : new ≡ old ++ line ∷ []

-- The ledger with one line more of that session, or none; the works of all others stay, workers have their lines, and
-- what is open are attempts.
pub record AddsOwn (session : ℕ) (May : What → Type 0) (old new : Ledger) : Type 0 where
  pub works : (other : ℕ) → other ≢ session → work_at new.works.slots other ≡ work_at old.works.slots other
  pub lines : (new.book.lines ≡ old.book.lines) ⊎ OneLine session May old.book.lines new.book.lines
  pub workers : WorkersFit old → WorkersFit new
  pub tried : AreTried old → AreTried new

pub slot_other : (slots : List (Option Work)) (session other : ℕ) (work : Option Work) → other ≢ session → work_at (with_work slots session work) other ≡ work_at slots other
slot_other slots session other work ne = work_at_with slots session other work ∙ ap (λ (b : Bool). cond b work (work_at slots other)) (ne_eqb other session ne)

pub slot_own : (slots : List (Option Work)) (session : ℕ) (work : Option Work) → work_at (with_work slots session work) session ≡ work
slot_own slots session work = work_at_with slots session session work ∙ ap (λ (b : Bool). cond b work (work_at slots session)) (eq-eqb session session refl)

pub given_lines : (who : Who) (l : Ledger) → (given_up who l).book.lines ≡ l.book.lines
given_lines who l = at (keeps_other_drop who (work_at l.works.slots who.session)) where
  at : (test : Bool) → (cond test (gives_up who.session l) l).book.lines ≡ l.book.lines
  at true = refl
  at false = refl

given_workers : (who : Who) (l : Ledger) → (given_up who l).book.workers ≡ l.book.workers
given_workers who l = at (keeps_other_drop who (work_at l.works.slots who.session)) where
  at : (test : Bool) → (cond test (gives_up who.session l) l).book.workers ≡ l.book.workers
  at true = refl
  at false = refl

pub given_works : (who : Who) (l : Ledger) (other : ℕ) → other ≢ who.session → work_at (given_up who l).works.slots other ≡ work_at l.works.slots other
given_works who l other ne = at (keeps_other_drop who (work_at l.works.slots who.session)) where
  at : (test : Bool) → work_at (cond test (gives_up who.session l) l).works.slots other ≡ work_at l.works.slots other
  at true = slot_other l.works.slots who.session other None ne
  at false = refl

-- what is given up is no attempt
given_attempt : (who : Who) (l : Ledger) (lines : List Line) → IsAttempt lines who.session (work_at l.works.slots who.session) → IsAttempt lines who.session (work_at (given_up who l).works.slots who.session)
given_attempt who l lines is = at (keeps_other_drop who (work_at l.works.slots who.session)) where
  at : (test : Bool) → IsAttempt lines who.session (work_at (cond test (gives_up who.session l) l).works.slots who.session)
  at true = subst (IsAttempt lines who.session) (sym (slot_own l.works.slots who.session None)) tt
  at false = is

-- ---- with the line of a drop kept

pub kept_lines : (who : Who) (l : Ledger) → (drop_kept who l).book.lines ≡ l.book.lines
kept_lines who l = at (keeps_drop who (work_at l.works.slots who.session)) where
  at : (test : Bool) → (cond test l (keeping_drop who (given_up who l))).book.lines ≡ l.book.lines
  at true = refl
  at false = given_lines who l

kept_workers : (who : Who) (l : Ledger) → (drop_kept who l).book.workers ≡ l.book.workers
kept_workers who l = at (keeps_drop who (work_at l.works.slots who.session)) where
  at : (test : Bool) → (cond test l (keeping_drop who (given_up who l))).book.workers ≡ l.book.workers
  at true = refl
  at false = given_workers who l

kept_works : (who : Who) (l : Ledger) (other : ℕ) → other ≢ who.session → work_at (drop_kept who l).works.slots other ≡ work_at l.works.slots other
kept_works who l other ne = at (keeps_drop who (work_at l.works.slots who.session)) where
  at : (test : Bool) → work_at (cond test l (keeping_drop who (given_up who l))).works.slots other ≡ work_at l.works.slots other
  at true = refl
  at false = slot_other (given_up who l).works.slots who.session other (Some (KeptDrop who)) ne ∙ given_works who l other ne

pub kept_slot : (who : Who) (l : Ledger) → keeps_drop who (work_at (drop_kept who l).works.slots who.session) ≡ true
kept_slot who l = at (keeps_drop who (work_at l.works.slots who.session)) refl where
  at : (test : Bool) → keeps_drop who (work_at l.works.slots who.session) ≡ test → keeps_drop who (work_at (cond test l (keeping_drop who (given_up who l))).works.slots who.session) ≡ true
  at true e = e
  at false e = ap (keeps_drop who) (slot_own (given_up who l).works.slots who.session (Some (KeptDrop who))) ∙ eq-eqb who.phase who.phase refl

-- a drop's line that is kept is no attempt
kept_attempt : (who : Who) (w : Option Work) (lines : List Line) (session : ℕ) → keeps_drop who w ≡ true → IsAttempt lines session w
kept_attempt who (Some (Open t)) lines session e = absurd (cc e)
kept_attempt who _ lines session e = tt

module _ (who : Who) (May : What → Type 0) (l new : Ledger) where
  abbrev Stay : Type 0
  Stay = (other : ℕ) → other ≢ who.session → work_at new.works.slots other ≡ work_at l.works.slots other

  -- what the session has then
  abbrev Now : Option Work
  Now = work_at new.works.slots who.session

  quiet : Stay → new.book.lines ≡ l.book.lines → new.book.workers ≡ l.book.workers → (AreTried l → IsAttempt l.book.lines who.session Now) → AddsOwn who.session May l new
  quiet works same workers own = record {
    works = works;
    lines = inl same;
    workers = same_fits l new workers same;
    tried = λ t. record {
      commits = subst (AllEndAttempts []) (sym same) t.commits;
      works = λ n. subst (λ (ls : List Line). IsAttempt ls n (work_at new.works.slots n)) (sym same)
          (⊎_elim (λ (e : n ≡ who.session). subst (λ (k : ℕ). IsAttempt l.book.lines k (work_at new.works.slots k)) (sym e) (own t))
          (λ (ne : n ≢ who.session). subst (IsAttempt l.book.lines n) (sym (works n ne)) (t.works n)) (which n who.session));
    };
  }

  one_more : (what : What) → May what → Stay → new.book.lines ≡ l.book.lines ++ line_of who what ∷ [] → (WorkersFit l → WorkersFit new) → (AreTried l → EndsAttempt l.book.lines who what)
      → IsAttempt (l.book.lines ++ line_of who what ∷ []) who.session Now → AddsOwn who.session May l new
  one_more what may works is workers ends own = record {
    works = works;
    lines = inr (record { line = line_of who what; of = refl; may = may; is = is });
    workers = workers;
    tried = λ t. record {
      commits = subst (AllEndAttempts []) (sym is) (ends_append [] l.book.lines (line_of who what) t.commits (ends t));
      works = λ n. subst (λ (ls : List Line). IsAttempt ls n (work_at new.works.slots n)) (sym is)
          (⊎_elim (λ (e : n ≡ who.session). subst (λ (k : ℕ). IsAttempt (l.book.lines ++ line_of who what ∷ []) k (work_at new.works.slots k)) (sym e) own)
          (λ (ne : n ≢ who.session). attempt_other l.book.lines (line_of who what) n (work_at new.works.slots n) (λ e. ne (sym e)) (subst (IsAttempt l.book.lines n) (sym (works n ne)) (t.works n))) (which n who.session));
    };
  }

  -- a session that has nothing open
  none_open : (lines : List Line) → Now ≡ None → IsAttempt lines who.session Now
  none_open lines e = subst (IsAttempt lines who.session) (sym e) tt

  pub adds_nothing : new ≡ l → AddsOwn who.session May l new
  adds_nothing e = quiet (λ other ne. ap (λ (x : Ledger). work_at x.works.slots other) e) (ap (λ (x : Ledger). x.book.lines) e) (ap (λ (x : Ledger). x.book.workers) e)
      (λ t. subst (λ (x : Ledger). IsAttempt l.book.lines who.session (work_at x.works.slots who.session)) (sym e) (t.works who.session))

  pub adds_given : new ≡ given_up who l → AddsOwn who.session May l new
  adds_given e = quiet (λ other ne. ap (λ (x : Ledger). work_at x.works.slots other) e ∙ given_works who l other ne) (ap (λ (x : Ledger). x.book.lines) e ∙ given_lines who l) (ap (λ (x : Ledger). x.book.workers) e ∙ given_workers who l)
      (λ t. subst (λ (x : Ledger). IsAttempt l.book.lines who.session (work_at x.works.slots who.session)) (sym e) (given_attempt who l l.book.lines (t.works who.session)))

  -- a line behind those of the ledger that gave up a drop's line
  given_one : (what : What) → May what → Stay → new.book.lines ≡ (given_up who l).book.lines ++ line_of who what ∷ [] → new.book.workers ≡ (given_up who l).book.workers → EndsAttempt l.book.lines who what
      → IsAttempt (l.book.lines ++ line_of who what ∷ []) who.session Now → AddsOwn who.session May l new
  given_one what may works is workers ends own =
      let all = is ∙ ap (λ (lines : List Line). lines ++ line_of who what ∷ []) (given_lines who l) in
      one_more what may works all (more_fits l new (workers ∙ given_workers who l) (line_of who what) all) (λ t. ends) own

  pub adds_opened : (what : What) (work : Work) → May what → EndsAttempt l.book.lines who what → IsAttempt (l.book.lines ++ line_of who what ∷ []) who.session (Some work)
      → new ≡ opened who what work (given_up who l) → AddsOwn who.session May l new
  adds_opened what work may ends own e = given_one what may
      (λ other ne. ap (λ (x : Ledger). work_at x.works.slots other) e ∙ (slot_other (given_up who l).works.slots who.session other (Some work) ne ∙ given_works who l other ne))
      (ap (λ (x : Ledger). x.book.lines) e) (ap (λ (x : Ledger). x.book.workers) e) ends
      (subst (IsAttempt (l.book.lines ++ line_of who what ∷ []) who.session) (sym (ap (λ (x : Ledger). work_at x.works.slots who.session) e ∙ slot_own (given_up who l).works.slots who.session (Some work))) own)

  pub adds_told : (what : What) → May what → EndsAttempt l.book.lines who what → work_at (given_up who l).works.slots who.session ≡ None → new ≡ with_told_line who what (given_up who l) → AddsOwn who.session May l new
  adds_told what may ends none e = given_one what may (λ other ne. ap (λ (x : Ledger). work_at x.works.slots other) e ∙ given_works who l other ne)
      (ap (λ (x : Ledger). x.book.lines) e) (ap (λ (x : Ledger). x.book.workers) e) ends (none_open (l.book.lines ++ line_of who what ∷ []) (ap (λ (x : Ledger). work_at x.works.slots who.session) e ∙ none))

  pub adds_closed : (what : What) → May what → (AreTried l → EndsAttempt l.book.lines who what) → new ≡ closed who what l → AddsOwn who.session May l new
  adds_closed what may ends e =
      let is = ap (λ (x : Ledger). x.book.lines) e in
      one_more what may (λ other ne. ap (λ (x : Ledger). work_at x.works.slots other) e ∙ slot_other l.works.slots who.session other None ne) is
      (more_fits l new (ap (λ (x : Ledger). x.book.workers) e) (line_of who what) is) ends (none_open (l.book.lines ++ line_of who what ∷ []) (ap (λ (x : Ledger). work_at x.works.slots who.session) e ∙ slot_own l.works.slots who.session None))

  pub adds_open : (t : Transaction) → (AreTried l → IsAttempt l.book.lines who.session (Some (Open t))) → new ≡ with_open who t l → AddsOwn who.session May l new
  adds_open t own e = quiet (λ other ne. ap (λ (x : Ledger). work_at x.works.slots other) e ∙ slot_other l.works.slots who.session other _ ne)
      (ap (λ (x : Ledger). x.book.lines) e) (ap (λ (x : Ledger). x.book.workers) e)
      (λ tried. subst (IsAttempt l.book.lines who.session) (sym (ap (λ (x : Ledger). work_at x.works.slots who.session) e ∙ slot_own l.works.slots who.session (Some (Open t)))) (own tried))

  pub adds_committed : (label : Option (List ℕ)) (writes : List PageImage) → May (whats.Done label writes) → (AreTried l → is_trying who l.book.lines ≡ true) → new ≡ committed who label writes (taken who l) → AddsOwn who.session May l new
  adds_committed label writes may ends e =
      let is = ap (λ (x : Ledger). x.book.lines) e in
      one_more (whats.Done label writes) may (λ other ne. ap (λ (x : Ledger). work_at x.works.slots other) e ∙ slot_other l.works.slots who.session other None ne) is
      (more_fits l new (ap (λ (x : Ledger). x.book.workers) e) (line_of who (whats.Done label writes)) is) ends (none_open (l.book.lines ++ line_of who (whats.Done label writes) ∷ []) (ap (λ (x : Ledger). work_at x.works.slots who.session) e ∙ slot_own l.works.slots who.session None))

  -- the fault of a session that has something open, or of a worker that told none
  pub adds_faulted : (device : Device) (count : ℕ) (call : FailedCall) → (is_some (work_at l.works.slots who.session) ≡ false → IsFreshWorker who.session l.book.lines) → May (whats.Fault device count call)
      → new ≡ faulted who device count call l → AddsOwn who.session May l new
  adds_faulted device count call fresh may e = at (is_some (work_at l.works.slots who.session)) refl where
    what : What
    what = whats.Fault device count call

    none : (w : Option Work) → is_some w ≡ false → w ≡ None
    none None f = refl
    none (Some w) f = absurd (cc f)

    at : (test : Bool) → is_some (work_at l.works.slots who.session) ≡ test → AddsOwn who.session May l new
    at true t = adds_closed what may (λ tried. tt) (e ∙ ap (λ (b : Bool). cond b (closed who what l) (record l { book = noting l.book (line_of who what) })) t)
    at false t =
        let is : new ≡ record l { book = noting l.book (line_of who what) } = e ∙ ap (λ (b : Bool). cond b (closed who what l) (record l { book = noting l.book (line_of who what) })) t in
        one_more what may (λ other ne. ap (λ (x : Ledger). work_at x.works.slots other) is) (ap (λ (x : Ledger). x.book.lines) is)
        (λ fits. subst WorkersFit (sym is) (noted_fits who device count call l (fresh t) fits)) (λ tried. tt)
        (none_open (l.book.lines ++ line_of who what ∷ []) (ap (λ (x : Ledger). work_at x.works.slots who.session) is ∙ none (work_at l.works.slots who.session) t))

  -- a drop that keeps its line, gives it up, or has it
  pub adds_kept : new ≡ drop_kept who l → AddsOwn who.session May l new
  adds_kept e = quiet (λ other ne. ap (λ (x : Ledger). work_at x.works.slots other) e ∙ kept_works who l other ne) (ap (λ (x : Ledger). x.book.lines) e ∙ kept_lines who l) (ap (λ (x : Ledger). x.book.workers) e ∙ kept_workers who l)
      (λ t. subst (λ (x : Ledger). IsAttempt l.book.lines who.session (work_at x.works.slots who.session)) (sym e) (kept_attempt who (work_at (drop_kept who l).works.slots who.session) l.book.lines who.session (kept_slot who l)))

  pub adds_gave : new ≡ gives_up who.session (drop_kept who l) → AddsOwn who.session May l new
  adds_gave e = quiet (λ other ne. ap (λ (x : Ledger). work_at x.works.slots other) e ∙ (slot_other (drop_kept who l).works.slots who.session other None ne ∙ kept_works who l other ne)) (ap (λ (x : Ledger). x.book.lines) e ∙ kept_lines who l)
      (ap (λ (x : Ledger). x.book.workers) e ∙ kept_workers who l) (λ t. none_open l.book.lines (ap (λ (x : Ledger). work_at x.works.slots who.session) e ∙ slot_own (drop_kept who l).works.slots who.session None))

  pub adds_dropped : (what : What) → May what → EndsAttempt l.book.lines who what → new ≡ closed who what (drop_kept who l) → AddsOwn who.session May l new
  adds_dropped what may ends e =
      let is = ap (λ (x : Ledger). x.book.lines) e ∙ ap (λ (lines : List Line). lines ++ line_of who what ∷ []) (kept_lines who l) in
      one_more what may (λ other ne. ap (λ (x : Ledger). work_at x.works.slots other) e ∙ (slot_other (drop_kept who l).works.slots who.session other None ne ∙ kept_works who l other ne)) is
      (more_fits l new (ap (λ (x : Ledger). x.book.workers) e ∙ kept_workers who l) (line_of who what) is) (λ t. ends)
      (none_open (l.book.lines ++ line_of who what ∷ []) (ap (λ (x : Ledger). work_at x.works.slots who.session) e ∙ slot_own (drop_kept who l).works.slots who.session None))

  -- without the line of a drop
  pub adds_without : new ≡ without_drop who.session l → AddsOwn who.session May l new
  adds_without e = at (is_kept_drop (work_at l.works.slots who.session)) e where
    at : (test : Bool) → new ≡ cond test (gives_up who.session l) l → AddsOwn who.session May l new
    at false f = adds_nothing f
    at true f = quiet (λ other ne. ap (λ (x : Ledger). work_at x.works.slots other) f ∙ slot_other l.works.slots who.session other None ne) (ap (λ (x : Ledger). x.book.lines) f)
        (ap (λ (x : Ledger). x.book.workers) f) (λ t. none_open l.book.lines (ap (λ (x : Ledger). work_at x.works.slots who.session) f ∙ slot_own l.works.slots who.session None))

-- the line of a fault closes what is open
pub faulted_closed : (who : Who) (l : Ledger) (device : Device) (count : ℕ) (call : FailedCall) (work : Work) → work_at l.works.slots who.session ≡ Some work → faulted who device count call l ≡ closed who (whats.Fault device count call) l
faulted_closed who l device count call work e = ap (λ (b : Bool). cond b (closed who (whats.Fault device count call) l) (record l { book = noting l.book (line_of who (whats.Fault device count call)) })) (ap is_some e)
