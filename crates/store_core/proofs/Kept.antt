-- The line that is kept for a drop, and the core behind it.
use Rattle.std.proofs.Common.{◌≡◌, ◌∙◌, ◌<◌, ◌&&◌, not, ℕ, zero, suc, Bool, true, false, cond, List, [], ◌∷◌, refl, sym, ap, subst, Option, Some, None, Result, Ok, Err}
use Rattle.std.specs.Prelude.{IfErr, IsSome, option_map}
use Rattle.std.specs.Option.{option_or}
use Rattle.std.proofs.lemmas.Bool.{eq-eqb, lt-ltb}
use Rattle.disk_model.specs.Disk.{State}
use Rattle.retro_base.specs.declared.refusal.Refusal.{Refusal}
use Rattle.retro_base.specs.declared.refusal.Refusal.TheVariants.{JournalFull, NoSuchSnapshot, OutOfMemory, Pinned}
use Rattle.retro_base.specs.declared.who.Who.{Who}
use Rattle.gate_log.specs.Cause.{IsDiskFault}
use Rattle.history.specs.declared.entry.Base.{Base}
use Rattle.history.specs.declared.entry.Change.TheVariants.{Drop}
use Rattle.history.specs.declared.journal.Line.{Line}
use Rattle.history.specs.declared.journal.What.{What}
use Rattle.history.specs.declared.journal.FailedCall.TheVariants.{Write}
use Rattle.history.specs.declared.journal.What.TheVariants as whats
use Rattle.history.specs.History.{History, now}
use Rattle.history.specs.Journal.{change_of}
use Rattle.history.specs.Lines.{begins, images_in, first_stop, stop_of}
use Rattle.history.specs.Marks.{newest, oldest}
use Rattle.history.specs.Writes.{is_among, pages_of}
use Rattle.history.specs.declared.writes.PageImage.{PageImage}
use Rattle.page_pool.specs.Side.{held}
use Rattle.race_model.specs.Desk.{Desk}
use Rattle.history.specs.declared.stop.Stop.{Stop}
use Rattle.journal_book.specs.declared.work.Work.{Work}
use Rattle.journal_book.specs.declared.work.Work.TheVariants.{Open, Looking, KeptDrop}
use Rattle.journal_book.specs.Book.{Book, lines_needed, lines_refused}
use Rattle.journal_book.specs.Works.{edits_of, first_pin, least_pin, lesser, work_at, with_work}
use Rattle.journal_book.proofs.Slots.{work_at_with}
use Rattle.txn_set.specs.declared.ledger.Ledger.{Ledger}
use Rattle.txn_set.specs.Ledger.{IsKeptDrop, closed, drop_kept, given_up, gives_up, is_closed, keeping_drop, keeps_drop, keeps_other_drop, line_of}
use Rattle.txn_set.specs.Refused.{drop_refused, no_snapshot, pinned_below, stopped, where_so}
use Rattle.txn_set.specs.WorksFit.{Closes, WorksFit}
use Rattle.txn_set.proofs.FitSteps.{fits_gives_up, fits_keeping_drop, idle_none}
use Rattle.txn_set.proofs.LedgerSteps.{is_idle_so, one_line_needed}
use Rattle.store_core.specs.declared.desk_core.Core.{Core}
use Rattle.store_core.specs.Calls.{MayRecord}
use Rattle.store_core.specs.Core.{IsCore}
use Rattle.store_core.specs.Drops.{drop_line_refused, drop_refused_by, is_kept_drop}
use Rattle.store_core.proofs.Cores.{core_still, doubt_stays, holds_moved, same_edits}
use Rattle.store_core.proofs.Drops.{drop_edits, drop_some, none_first, none_mapped}
use Rattle.store_core.proofs.Ledgers.{ledger_gives_up, ledger_keeping}
use Rattle.store_core.proofs.Opened.{and_true, core_ended, core_given_up, ends_refused, given_book, stop_stays}

-- ---- what such a line pins and closes: nothing

pin_closed : (work : Option Work) → is_closed work ≡ true → first_pin work ≡ None
pin_closed None e = refl
pin_closed (Some (KeptDrop who)) e = refl
pin_closed (Some (Open t)) e = absurd cc
pin_closed (Some (Looking look)) e = absurd cc

-- a session that keeps a line for a drop has a work
pub kept_some : (work : Option Work) → IsKeptDrop work → IsSome work
kept_some (Some (KeptDrop other)) kept = refl
kept_some (Some (Open t)) kept = absurd kept
kept_some (Some (Looking look)) kept = absurd kept
kept_some None kept = absurd kept

pub closes_drop : (who : Who) (what : What) (work : Option Work) → IsKeptDrop work → begins what ≡ false → Closes who what work
closes_drop who what None kept quiet = absurd kept
closes_drop who what (Some (KeptDrop other)) kept quiet = quiet
closes_drop who what (Some (Open t)) kept quiet = absurd kept
closes_drop who what (Some (Looking look)) kept quiet = absurd kept

keeps_kept : (who : Who) (work : Option Work) → keeps_drop who work ≡ true → IsKeptDrop work
keeps_kept who None e = absurd cc
keeps_kept who (Some (KeptDrop other)) e = tt
keeps_kept who (Some (Open t)) e = absurd cc
keeps_kept who (Some (Looking look)) e = absurd cc

pub is_kept : (work : Option Work) → is_kept_drop work ≡ true → IsKeptDrop work
is_kept None e = absurd cc
is_kept (Some (KeptDrop other)) e = tt
is_kept (Some (Open t)) e = absurd cc
is_kept (Some (Looking look)) e = absurd cc

-- the least pin stays where a work that pins nothing takes the place of one
least_same : (slots : List (Option Work)) (session : ℕ) (work : Option Work) → first_pin (work_at slots session) ≡ None → first_pin work ≡ None → least_pin (with_work slots session work) ≡ least_pin slots
least_same [] zero work before behind = ap (λ (pin : Option (ℕ × ℕ)). lesser pin None) behind
least_same [] (suc session) work before behind = least_same [] session work refl behind
least_same (slot ∷ slots) zero work before behind = ap (λ (pin : Option (ℕ × ℕ)). lesser pin (least_pin slots)) (behind ∙ sym before)
least_same (slot ∷ slots) (suc session) work before behind = ap (lesser (first_pin slot)) (least_same slots session work before behind)

module _ (who : Who) (l : Ledger) (closed : is_closed (work_at l.works.slots who.session) ≡ true) where
  given_pins : least_pin (given_up who l).works.slots ≡ least_pin l.works.slots
  given_pins = at (keeps_other_drop who (work_at l.works.slots who.session)) where
    at : (test : Bool) → least_pin (cond test (gives_up who.session l) l).works.slots ≡ least_pin l.works.slots
    at true = least_same l.works.slots who.session None (pin_closed (work_at l.works.slots who.session) closed) refl
    at false = refl

  no_work : keeps_drop who (work_at l.works.slots who.session) ≡ false → work_at (given_up who l).works.slots who.session ≡ None
  no_work e = idle_none l who (is_idle_so who l closed e)

  kept_pins : least_pin (drop_kept who l).works.slots ≡ least_pin l.works.slots
  kept_pins = at (keeps_drop who (work_at l.works.slots who.session)) refl where
    at : (test : Bool) → keeps_drop who (work_at l.works.slots who.session) ≡ test → least_pin (cond test l (keeping_drop who (given_up who l))).works.slots ≡ least_pin l.works.slots
    at true e = refl
    at false e = least_same (given_up who l).works.slots who.session (Some (KeptDrop who)) (ap first_pin (no_work e)) refl ∙ given_pins

  kept_lines_stay : (drop_kept who l).book.lines ≡ l.book.lines
  kept_lines_stay = at (keeps_drop who (work_at l.works.slots who.session)) where
    at : (test : Bool) → (cond test l (keeping_drop who (given_up who l))).book.lines ≡ l.book.lines
    at true = refl
    at false = (given_book l who).0

  -- with its line kept a drop is refused as before
  pub kept_refused : (newest below : ℕ) → drop_refused_by newest below (drop_kept who l) ≡ drop_refused_by newest below l
  kept_refused newest below =
      ap (λ (lines : List Line). drop_refused (first_stop lines) newest below (drop_kept who l).works.slots) kept_lines_stay
      ∙ ap (λ (pin : Option (ℕ × ℕ)). option_or (option_map stopped (first_stop l.book.lines)) (option_or (no_snapshot below newest) (pinned_below below pin))) kept_pins

  -- and the session has that line
  pub kept_there : IsKeptDrop (work_at (drop_kept who l).works.slots who.session)
  kept_there = at (keeps_drop who (work_at l.works.slots who.session)) refl where
    at : (test : Bool) → keeps_drop who (work_at l.works.slots who.session) ≡ test → IsKeptDrop (work_at (cond test l (keeping_drop who (given_up who l))).works.slots who.session)
    at true e = keeps_kept who (work_at l.works.slots who.session) e
    at false e = subst IsKeptDrop (sym (own (given_up who l).works.slots)) tt where
      own : (slots : List (Option Work)) → work_at (with_work slots who.session (Some (KeptDrop who))) who.session ≡ Some (KeptDrop who)
      own slots =
          work_at_with slots who.session who.session (Some (KeptDrop who)) ∙ ap (λ (b : Bool). cond b (Some (KeptDrop who)) (work_at slots who.session)) (eq-eqb who.session who.session refl)

pub kept_may_record : (who : Who) (l : Ledger) → IsKeptDrop (work_at l.works.slots who.session) → MayRecord who l
kept_may_record who l kept = (
  λ none. absurd (cc (none, drop_some (work_at l.works.slots who.session) kept)),
  λ device count. closes_drop who (whats.Fault device count Write) (work_at l.works.slots who.session) kept refl,
)

-- ---- no such refusal is a fault

no_fault_by : (a b : Option Refusal) → ((why : Refusal) → a ≡ Some why → IsDiskFault why → ⊥) → ((why : Refusal) → b ≡ Some why → IsDiskFault why → ⊥) → (why : Refusal) → option_or a b ≡ Some why → IsDiskFault why → ⊥
no_fault_by None b first next why e = next why e
no_fault_by (Some x) b first next why e = first why e

pub one_refusal : (other why : Refusal) → Some other ≡ Some why → other ≡ why
one_refusal other why e = cc

no_fault_where : (test : Bool) (other : Refusal) → (IsDiskFault other → ⊥) → (why : Refusal) → where_so test other ≡ Some why → IsDiskFault why → ⊥
no_fault_where true other not why e fault = not (subst IsDiskFault (sym (one_refusal other why e)) fault)
no_fault_where false other not why e fault = absurd cc

no_fault_stopped : (stop : Option Stop) (why : Refusal) → option_map stopped stop ≡ Some why → IsDiskFault why → ⊥
no_fault_stopped None why e fault = absurd cc
no_fault_stopped (Some stop) why e fault = subst IsDiskFault (sym (one_refusal (stopped stop) why e)) fault

no_fault_pinned : (below : ℕ) (pin : Option (ℕ × ℕ)) (why : Refusal) → pinned_below below pin ≡ Some why → IsDiskFault why → ⊥
no_fault_pinned below None why e fault = absurd cc
no_fault_pinned below (Some pin) why e fault = no_fault_where _ (Pinned pin.0 pin.1) (λ f. f) why e fault

pub refused_without_fault : (newest below : ℕ) (l : Ledger) (why : Refusal) → drop_refused_by newest below l ≡ Some why → IsDiskFault why → ⊥
refused_without_fault newest below l why e =
    no_fault_by (option_map stopped (first_stop l.book.lines)) _ (no_fault_stopped (first_stop l.book.lines))
    (no_fault_by (no_snapshot below newest) _ (λ w f. no_fault_where _ (NoSuchSnapshot below newest) (λ g. g) w f) (no_fault_pinned below (least_pin l.works.slots))) why e

abbrev refusal_in : {T : Type 0} → Result T Refusal → Refusal → Refusal
refusal_in (Ok x) other = other
refusal_in (Err why) other = why

-- nor is that of the line
pub line_without_fault : {T : Type 0} (book : Book) (more : ℕ) (why : Refusal) (result : Result T Refusal) → result ≡ Err why → ((other : Refusal) → lines_refused book more ≡ Some other → result ≡ Err other)
    → (lines_refused book more ≡ None → IfErr result (λ other. other ≡ OutOfMemory)) → IsDiskFault why → ⊥
line_without_fault {T = T} book more why result is full memory fault = at (lines_refused book more) refl where
  same : (other : Refusal) → result ≡ Err other → other ≡ why
  same other e = ap (λ (r : Result T Refusal). refusal_in r why) (sym e ∙ is)

  at : (refused : Option Refusal) → lines_refused book more ≡ refused → ⊥
  at None e = subst IsDiskFault (subst (λ (r : Result T Refusal). IfErr r (λ other. other ≡ OutOfMemory)) is (memory e)) fault
  at (Some other) e = no_fault_where _ (JournalFull (lines_needed book more) (images_in book.lines)) (λ f. f) other e (subst IsDiskFault (sym (same other (full other e))) fault)

-- what is refused for want of memory, or finds its line, finds room
pub room_where_ok : (refused : Option Refusal) → ((why : Refusal) → refused ≡ Some why → ⊥) → refused ≡ None
room_where_ok None not = refl
room_where_ok (Some why) not = absurd (not why refl)

-- ---- what the log says behind the line of a drop

pub drops_some : (base : Base) (below : ℕ) → oldest base.marks < below → change_of base (whats.Dropped below) ≡ Some (Drop below)
drops_some base below above = ap (λ (test : Bool). cond test (Some (Drop below)) None) (lt-ltb (oldest base.marks) below above)

module _ {D : Type 0} (honest : D → Type 0) (state : D → State) (opening : History) (core : Core D) (plain : Desk) (is : IsCore honest state opening core plain) where
  -- a desk that refuses no drop goes on
  pub goes_unrefused : (newest below : ℕ) → drop_refused_by newest below core.ledger ≡ None → core.desk.stop ≡ None
  goes_unrefused newest below none =
      is.stop ∙ none_mapped (first_stop core.ledger.book.lines) (none_first (option_map stopped (first_stop core.ledger.book.lines)) _ none)

  -- with a line kept
  pub core_kept : (who : Who) (ledger : Ledger) → is_closed (work_at core.ledger.works.slots who.session) ≡ true → drop_line_refused who core.ledger ≡ None → ledger ≡ drop_kept who core.ledger
      → IsCore honest state opening (record { desk = core.desk; ledger = ledger }) plain
  core_kept who ledger closed room ledger_is =
      subst (λ (l : Ledger). IsCore honest state opening (record { desk = core.desk; ledger = l }) plain) (sym ledger_is) (at (keeps_drop who (work_at core.ledger.works.slots who.session)) refl) where
        at : (test : Bool) → keeps_drop who (work_at core.ledger.works.slots who.session) ≡ test
            → IsCore honest state opening (record { desk = core.desk; ledger = cond test core.ledger (keeping_drop who (given_up who core.ledger)) }) plain
        at true e = is
        at false e =
            let g : Ledger = given_up who core.ledger in
            let given : IsCore honest state opening (record { desk = core.desk; ledger = g }) plain = core_given_up honest state opening core plain is who in
            let none : work_at g.works.slots who.session ≡ None = no_work who core.ledger closed e in
            core_still honest state opening (record { desk = core.desk; ledger = g }) plain given (record { desk = core.desk; ledger = keeping_drop who g }) plain refl refl
            (ledger_keeping (now opening).base g given.ledger who none (sym (one_line_needed who core.ledger e) ∙ room) (fits_keeping_drop g who given.ledger.works none)) is.is is.fits refl
            (holds_moved core.desk.pool core.desk.pool g.works.slots (with_work g.works.slots who.session (Some (KeptDrop who))) given.edits (λ page. refl)
            (same_edits g.works.slots who.session (Some (KeptDrop who)) (ap edits_of (sym none)))) refl refl given.doubt

  module _ (who : Who) (kept : IsKeptDrop (work_at core.ledger.works.slots who.session)) where
    -- without it
    pub core_gives_up : IsCore honest state opening (record { desk = core.desk; ledger = gives_up who.session core.ledger }) plain
    core_gives_up =
        core_still honest state opening core plain is (record { desk = core.desk; ledger = gives_up who.session core.ledger }) plain refl refl
        (ledger_gives_up (now opening).base core.ledger is.ledger who.session kept (fits_gives_up core.ledger who.session is.ledger.works kept)) is.is is.fits refl
        (holds_moved core.desk.pool core.desk.pool core.ledger.works.slots (with_work core.ledger.works.slots who.session None) is.edits (λ page. refl)
        (same_edits core.ledger.works.slots who.session None (drop_edits (work_at core.ledger.works.slots who.session) kept))) refl refl is.doubt

    -- behind a line that says why the drop was refused
    pub core_not_dropped : (why : Refusal) (ledger : Ledger) → ledger ≡ closed who (whats.Refused why) core.ledger → WorksFit ledger → IsCore honest state opening (record { desk = core.desk; ledger = ledger }) plain
    core_not_dropped why ledger ledger_is fits =
        core_ended honest state opening core plain is core.desk ledger plain who (whats.Refused why) ledger_is fits (drop_some (work_at core.ledger.works.slots who.session) kept)
        (closes_drop who (whats.Refused why) (work_at core.ledger.works.slots who.session) kept refl) (ends_refused why) is.is is.fits refl
        (λ page. and_true (held core.desk.pool page) ∙ ap (λ (l : List PageImage). held core.desk.pool page && not (is_among page (pages_of l))) (drop_edits (work_at core.ledger.works.slots who.session) kept))
        (stop_stays core.desk.stop (stop_of (whats.Refused why)) refl) refl (doubt_stays honest state opening core plain is plain (line_of who (whats.Refused why)) refl)
