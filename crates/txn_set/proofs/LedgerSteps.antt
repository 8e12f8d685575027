-- What the calls of a ledger need of the works.
use Rattle.std.proofs.Common.{◌≡◌, ◌∙◌, ◌≤◌, ◌&&◌, not, ℕ, zero, suc, Bool, true, false, cond, eqb, List, [], ◌∷◌, length, Option, Some, None, Result, Ok, Err, refl, sym, ap, arith}
use Rattle.std.specs.Prelude.{IsSome, OnOk}
use Rattle.std.specs.Option.{option_or}
use Rattle.std.specs.declared.alloc.AllocError.{AllocError}
use Rattle.std.proofs.lemmas.Bool.{eqb-true, eq-eqb}
use Rattle.retro_base.specs.declared.refusal.Refusal.{Refusal}
use Rattle.retro_base.specs.declared.who.Who.{Who}
use Rattle.history.specs.declared.journal.Line.{Line}
use Rattle.history.specs.declared.journal.What.TheVariants.{Began}
use Rattle.txn_set.specs.declared.ledger.Ledger.{Ledger}
use Rattle.journal_book.specs.declared.work.Transaction.{Transaction}
use Rattle.journal_book.specs.declared.work.Work.{Work}
use Rattle.journal_book.specs.declared.work.Work.TheVariants.{Open, Looking, KeptDrop}
use Rattle.journal_book.specs.Book.{Book, lines_refused}
use Rattle.txn_set.specs.Ledger.{IsKeptDrop, drop_kept, drop_lines, given_up, gives_up, is_closed, is_idle, is_kept, keeping_drop, keeps_drop, keeps_other_drop, kept_behind, with_open, IsOpenAs, fresh, opened}
use Rattle.journal_book.specs.Works.{Works, keeping_refusal, edits_of, edits_page, latched_by, latch_holder, who_of, with_work, work_at}
use Rattle.txn_set.specs.WorksFit.{WorksFit, kept_lines}
use Rattle.journal_book.proofs.Slots.{work_at_with, with_work_same, works_of}

abbrev pub ledger : Book → Works → Ledger
ledger book works = record { book = book; works = works }

pub some_kept : (slots : List (Option Work)) (session : ℕ) → IsSome (work_at slots session) → 1 ≤ kept_lines slots
some_kept [] session e = absurd cc
some_kept (None ∷ slots) zero e = absurd cc
some_kept (None ∷ slots) (suc session) e = some_kept slots session e
some_kept (Some work ∷ slots) session e = omega arith

pub drop_is_some : (work : Option Work) → IsKeptDrop work → IsSome work
drop_is_some None e = absurd e
drop_is_some (Some work) e = refl

pub works_done : (book : Book) (r : Result (Unit {0}) AllocError) (a b : Works) → OnOk r (a ≡ b) → OnOk r (ledger book a ≡ ledger book b)
works_done book (Ok x) a b e = ap (ledger book) e
works_done book (Err x) a b e = tt

none_parts : (a b : Option Who) → option_or a b ≡ None → (a ≡ None) × (b ≡ None)
none_parts None b e = (refl, e)
none_parts (Some x) b e = absurd cc

-- the transaction that edits a page which no other session's does
free_latch : (who : Who) (page : ℕ) (slots : List (Option Work)) (other : ℕ) → latch_holder who page slots ≡ None → edits_page page (work_at slots other) ≡ true
    → (work : Work) × (work_at slots other ≡ Some work) × ((who_of work).session ≡ who.session)
free_latch who page [] other none edits = absurd cc
free_latch who page (slot ∷ slots) zero none edits = own slot (none_parts _ _ none).0 edits where
  same : (t : Transaction) → (b : Bool) → eqb t.who.session who.session ≡ b → cond (not b) (Some t.who) None ≡ None → t.who.session ≡ who.session
  same t true e f = eqb-true _ _ e
  same t false e f = absurd cc

  own : (slot : Option Work) → latched_by who page slot ≡ None → edits_page page slot ≡ true → (work : Work) × (slot ≡ Some work) × ((who_of work).session ≡ who.session)
  own (Some (Open t)) free edits =
      (Open t, refl, same t (eqb t.who.session who.session) refl (sym (ap (λ (b : Bool). cond (b && not (eqb t.who.session who.session)) (Some t.who) None) edits) ∙ free))
  own (Some (Looking look)) free edits = absurd cc
  own (Some (KeptDrop w)) free edits = absurd cc
  own None free edits = absurd cc
free_latch who page (slot ∷ slots) (suc other) none edits = free_latch who page slots other (none_parts _ _ none).1 edits

pub only_own : (l : Ledger) (who : Who) (page other : ℕ) → WorksFit l → latch_holder who page l.works.slots ≡ None → edits_page page (work_at l.works.slots other) ≡ true → other ≡ who.session
only_own l who page other fits none edits =
    let work = free_latch who page l.works.slots other none edits in
    omega (arith, fits.sessions other work.0 work.1, work.2)

-- behind what it gives up an idle session has nothing
pub idle_left : (who : Who) (l : Ledger) → is_idle who (work_at l.works.slots who.session) ≡ true → edits_of (work_at (given_up who l).works.slots who.session) ≡ []
idle_left who l idle = go (work_at l.works.slots who.session) refl idle where
  cleared : edits_of (work_at (with_work l.works.slots who.session None) who.session) ≡ []
  cleared = ap edits_of (work_at_with l.works.slots who.session who.session None ∙ ap (λ (b : Bool). cond b None (work_at l.works.slots who.session)) (eq-eqb who.session who.session refl))

  dropped : (b : Bool) → edits_of (work_at l.works.slots who.session) ≡ [] → edits_of (work_at (cond b (gives_up who.session l) l).works.slots who.session) ≡ []
  dropped true none = cleared
  dropped false none = none

  go : (work : Option Work) → work_at l.works.slots who.session ≡ work → is_idle who work ≡ true → edits_of (work_at (given_up who l).works.slots who.session) ≡ []
  go None e i = dropped (keeps_other_drop who (work_at l.works.slots who.session)) (ap edits_of e)
  go (Some (KeptDrop other)) e i = dropped (keeps_other_drop who (work_at l.works.slots who.session)) (ap edits_of e)
  go (Some (Open t)) e i = absurd cc
  go (Some (Looking look)) e i = absurd cc

-- a line that is kept in this phase is not given up
pub kept_stays : (who : Who) (l : Ledger) → keeps_drop who (work_at l.works.slots who.session) ≡ true → given_up who l ≡ l
kept_stays who l keeps = ap (λ (b : Bool). cond b (gives_up who.session l) l) (go (work_at l.works.slots who.session) keeps) where
  go : (work : Option Work) → keeps_drop who work ≡ true → keeps_other_drop who work ≡ false
  go (Some (KeptDrop other)) e = ap (λ (b : Bool). not b) e
  go (Some (Open t)) e = absurd cc
  go (Some (Looking look)) e = absurd cc
  go None e = absurd cc

pub no_lines_needed : (who : Who) (l : Ledger) → keeps_drop who (work_at l.works.slots who.session) ≡ true → lines_refused (given_up who l).book (drop_lines who l) ≡ lines_refused l.book 0
no_lines_needed who l keeps = ap (λ (b : Bool). lines_refused (given_up who l).book (cond b 0 1)) keeps ∙ ap (λ (x : Ledger). lines_refused x.book 0) (kept_stays who l keeps)

pub one_line_needed : (who : Who) (l : Ledger) → keeps_drop who (work_at l.works.slots who.session) ≡ false → lines_refused (given_up who l).book (drop_lines who l) ≡ lines_refused (given_up who l).book 1
one_line_needed who l keeps = ap (λ (b : Bool). lines_refused (given_up who l).book (cond b 0 1)) keeps

pub is_kept_drop : (who : Who) (l : Ledger) → keeps_drop who (work_at l.works.slots who.session) ≡ true → drop_kept who l ≡ l
is_kept_drop who l keeps = ap (λ (b : Bool). cond b l (keeping_drop who (given_up who l))) keeps

-- a refusal that is not kept leaves the transaction
pub not_kept : (who : Who) (l : Ledger) (why : Refusal) (t : Transaction) → is_kept why ≡ false → work_at l.works.slots who.session ≡ Some (Open t) → l ≡ with_open who (kept_behind why t) l
not_kept who l why t e is =
    ap (λ (slots : List (Option Work)). ledger l.book (works_of l.works.pages slots)) (sym (with_work_same l.works.slots who.session (Open t) is))
    ∙ ap (λ (x : Transaction). with_open who x l) (sym (ap (λ (b : Bool). cond b (keeping_refusal why t) t) e))

pub is_idle_so : (who : Who) (l : Ledger) → is_closed (work_at l.works.slots who.session) ≡ true → keeps_drop who (work_at l.works.slots who.session) ≡ false → is_idle who (work_at l.works.slots who.session) ≡ true
is_idle_so who l closed keeps = ap (λ (b : Bool). b && not (keeps_drop who (work_at l.works.slots who.session))) closed ∙ ap (λ (b : Bool). not b) keeps

-- what the session has behind a call
at_own : (slots : List (Option Work)) (session : ℕ) (work : Option Work) → work_at (with_work slots session work) session ≡ work
at_own slots session work = work_at_with slots session session work ∙ ap (λ (b : Bool). cond b work (work_at slots session)) (eq-eqb session session refl)

pub begun_open : (l : Ledger) (who : Who) (lines : List Line) → IsOpenAs (opened who Began (fresh who lines) l).works.slots who
begun_open l who lines = record {
  transaction = record { who = who; began = length lines; edits = []; reads = record { keys = [] }; kept = None };
  open_there = at_own l.works.slots who.session (Some (fresh who lines));
  is_of = refl;
}

pub still_open : (l : Ledger) (who : Who) (t : Transaction) → t.who ≡ who → IsOpenAs (with_open who t l).works.slots who
still_open l who t own = record { transaction = t; open_there = at_own l.works.slots who.session (Some (Open t)); is_of = own }
