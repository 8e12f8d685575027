-- The core behind a line, and behind a change of one session's work.
use Rattle.std.proofs.Common.{◌≡◌, ◌∙◌, ◌&&◌, not, ℕ, Bool, true, false, cond, eqb, List, [], ◌∷◌, ◌++◌, refl, sym, ap, Option, Some, None, subst}
use Rattle.std.specs.Option.{option_or, option_to_list}
use Rattle.std.proofs.lemmas.Bool.{eqb-true, eqb-false}
use Rattle.disk_model.specs.Disk.{State}
use Rattle.history.specs.declared.entry.Base.{Base}
use Rattle.history.specs.declared.entry.Change.{Change}
use Rattle.history.specs.declared.journal.Line.{Line}
use Rattle.history.specs.declared.journal.What.{What}
use Rattle.history.specs.History.{History, now, with_changes}
use Rattle.history.specs.Journal.{after_journal, change_of, changes_of}
use Rattle.history.specs.Lines.{base_of, doubt_in, doubt_of, first_stop, stop_of}
use Rattle.history.specs.Writes.{is_among, pages_of}
use Rattle.history.proofs.Journals.{one_more_line, with_changes-append}
use Rattle.history.proofs.Items.{only_stops_leave_doubt}
use Rattle.history.proofs.Lines.{base_after_journal, doubt_in_one_more, first_stop_in_one_more}
use Rattle.page_pool.specs.Side.{Pool, held}
use Rattle.race_model.specs.Desk.{Desk, Doubt, NewBase, OneMore, Sure}
use Rattle.race_model.specs.Fits.{DeskFits, DoubtFits}
use Rattle.history.specs.declared.stop.Stop.{Stop}
use Rattle.desk.specs.Desk.{IsDesk}
use Rattle.journal_book.specs.declared.work.Work.{Work}
use Rattle.journal_book.specs.Works.{edits_of, edits_page, work_at, with_work}
use Rattle.journal_book.proofs.Slots.{work_at_with}
use Rattle.store_core.specs.declared.desk_core.Core.{Core}
use Rattle.store_core.specs.Core.{HoldsEdits, IsCore, IsLedger, IsToldDoubt}

-- a line that tells no stop and leaves no change in the log
pub record IsQuiet (what : What) : Type 0 where
  pub stops : stop_of what ≡ None
  pub changes : (base : Base) → change_of base what ≡ None

-- ---- the pages that are held

module _ (slots : List (Option Work)) (session : ℕ) (work : Option Work) where
  abbrev Behind : List (Option Work)
  Behind = with_work slots session work

  -- a work with the same edits changes no edits
  pub same_edits : edits_of work ≡ edits_of (work_at slots session) → (page other : ℕ) → edits_page page (work_at Behind other) ≡ edits_page page (work_at slots other)
  same_edits same page other = ap (edits_page page) (work_at_with slots session other work) ∙ at (eqb other session) refl where
    at : (test : Bool) → eqb other session ≡ test → edits_page page (cond test work (work_at slots other)) ≡ edits_page page (work_at slots other)
    at true e = ap (λ l. is_among page (pages_of l)) same ∙ ap (λ (n : ℕ). edits_page page (work_at slots n)) (sym (eqb-true other session e))
    at false e = refl

pub holds_moved : {D : Type 0} (pool new : Pool D) (slots behind : List (Option Work)) → HoldsEdits pool slots → ((page : ℕ) → held new page ≡ held pool page)
    → ((page other : ℕ) → edits_page page (work_at behind other) ≡ edits_page page (work_at slots other)) → HoldsEdits new behind
holds_moved pool new slots behind holds same edits = record {
  kept = λ page session e. same page ∙ holds.kept page session (sym (edits page session) ∙ e);
  only = λ page h. let found = holds.only page (sym (same page) ∙ h) in (found.0, edits page found.0 ∙ found.1);
}

-- a session's edits released, and its work ended
pub holds_ended : {D : Type 0} (pool new : Pool D) (slots : List (Option Work)) (session : ℕ) → HoldsEdits pool slots
    → ((page one other : ℕ) → edits_page page (work_at slots one) ≡ true → edits_page page (work_at slots other) ≡ true → one ≡ other)
    → ((page : ℕ) → held new page ≡ (held pool page && not (is_among page (pages_of (edits_of (work_at slots session)))))) → HoldsEdits new (with_work slots session None)
holds_ended pool new slots session holds apart released = record {
  kept = λ page other e. kept page other (eqb other session) refl (sym (ap (edits_page page) (work_at_with slots session other None)) ∙ e);
  only = λ page h. only page (edits_page page (work_at slots session)) refl (sym (released page) ∙ h);
} where
  kept : (page other : ℕ) (test : Bool) → eqb other session ≡ test → edits_page page (cond test None (work_at slots other)) ≡ true → held new page ≡ true
  kept page other true e edits = absurd cc
  kept page other false e edits =
      released page ∙ ap (λ (b : Bool). b && not (edits_page page (work_at slots session))) (holds.kept page other edits) ∙ none (edits_page page (work_at slots session)) refl where
        none : (test : Bool) → edits_page page (work_at slots session) ≡ test → not (edits_page page (work_at slots session)) ≡ true
        none true t = absurd (eqb-false other session e (apart page other session edits t))
        none false t = ap not t

  only : (page : ℕ) (test : Bool) → edits_page page (work_at slots session) ≡ test → (held pool page && not (edits_page page (work_at slots session))) ≡ true → (other : ℕ) × (edits_page page (work_at (with_work slots session None) other) ≡ true)
  only page true t h = absurd (both (held pool page) (sym (ap (λ (b : Bool). held pool page && not b) t) ∙ h)) where
    both : (b : Bool) → (b && false) ≡ true → ⊥
    both true e = absurd cc
    both false e = absurd cc
  only page false t h =
      let found = holds.only page (first (held pool page) (sym (ap (λ (b : Bool). held pool page && not b) t) ∙ h)) in
      (found.0, ap (edits_page page) (work_at_with slots session found.0 None) ∙ at found.0 (eqb found.0 session) refl found.1) where
        first : (b : Bool) → (b && true) ≡ true → b ≡ true
        first true e = refl
        first false e = absurd cc

        at : (other : ℕ) (test : Bool) → eqb other session ≡ test → edits_page page (work_at slots other) ≡ true → edits_page page (cond test None (work_at slots other)) ≡ true
        at other true e edits = absurd (cc (t, sym edits ∙ ap (λ (n : ℕ). edits_page page (work_at slots n)) (eqb-true other session e)))
        at other false e edits = edits

-- ---- the core

-- a desk that goes on is in no doubt
pub none_told : (desk : Desk) (doubt : Doubt) (lines : List Line) → desk.stopped ≡ false → DoubtFits desk doubt → IsToldDoubt doubt lines
none_told desk Sure lines goes f = tt
none_told desk (OneMore change) lines goes f = absurd (cc (goes, f.1))
none_told desk (NewBase version) lines goes f = tt

-- the line of the fault tells the change in doubt
pub told_new : (lines : List Line) (line : Line) (change : Change) → first_stop lines ≡ None → doubt_of line.what ≡ Some change → doubt_in (lines ++ line ∷ []) ≡ Some change
told_new lines line change none is =
    doubt_in_one_more lines line ∙ (ap (λ (c : Option Change). option_or (doubt_in lines) c) is ∙ ap (λ (c : Option Change). option_or c (Some change)) (only_stops_leave_doubt lines none))

pub told_on : (doubt : Doubt) (lines : List Line) (line : Line) → IsToldDoubt doubt lines → IsToldDoubt doubt (lines ++ line ∷ [])
told_on Sure lines line told = tt
told_on (OneMore change) lines line told = doubt_in_one_more lines line ∙ ap (λ (c : Option Change). option_or c (doubt_of line.what)) told
told_on (NewBase version) lines line told = tt

pub append-nil : {X : Type 0} (xs : List X) → xs ++ [] ≡ xs
append-nil [] = refl
append-nil (x ∷ xs) = ap (λ l. x ∷ l) (append-nil xs)

module _ {D : Type 0} (honest : D → Type 0) (state : D → State) (opening : History) (core : Core D) (plain : Desk) (is : IsCore honest state opening core plain) where
  -- what the log says is what the journal makes of the opening
  pub base_is : core.desk.base ≡ base_of (now opening).base core.ledger.book.lines
  base_is = is.is.base ∙ ap (λ (h : History). (now h).base) is.journal ∙ base_after_journal opening core.ledger.book.lines

  behind_line : (line : Line) → after_journal opening (core.ledger.book.lines ++ line ∷ []) ≡ with_changes plain.history (option_to_list (change_of core.desk.base line.what))
  behind_line line =
      ap (with_changes opening) (one_more_line (now opening).base core.ledger.book.lines line)
      ∙ with_changes-append opening (changes_of (now opening).base core.ledger.book.lines) (option_to_list (change_of (base_of (now opening).base core.ledger.book.lines) line.what))
      ∙ ap (λ (b : Base). with_changes (after_journal opening core.ledger.book.lines) (option_to_list (change_of b line.what))) (sym base_is)
      ∙ ap (λ (h : History). with_changes h (option_to_list (change_of core.desk.base line.what))) (sym is.journal)

  -- behind a line
  pub core_line : (new : Core D) (other : Desk) (line : Line) → new.ledger.book.lines ≡ core.ledger.book.lines ++ line ∷ [] → new.ledger.book.pages ≡ core.ledger.book.pages → IsLedger (now opening).base new.ledger
      → IsDesk honest state new.desk other → DeskFits other → other.history ≡ with_changes plain.history (option_to_list (change_of core.desk.base line.what)) → HoldsEdits new.desk.pool new.ledger.works.slots
      → new.desk.stop ≡ option_or core.desk.stop (stop_of line.what) → new.desk.base.page_count ≡ core.desk.base.page_count → IsToldDoubt other.doubt (core.ledger.book.lines ++ line ∷ []) → IsCore honest state opening new other
  core_line new other line lines pages ledger desk fits history holds stop count told = record {
    ledger = ledger;
    is = desk;
    fits = fits;
    journal = history ∙ sym (behind_line line) ∙ ap (after_journal opening) (sym lines);
    pages = pages ∙ is.pages ∙ sym count;
    edits = holds;
    stop = stop ∙ ap (λ (s : Option Stop). option_or s (stop_of line.what)) is.stop ∙ sym (first_stop_in_one_more core.ledger.book.lines line) ∙ ap first_stop (sym lines);
    doubt = subst (IsToldDoubt other.doubt) (sym lines) told;
  }

  -- what is in doubt stays told
  pub doubt_stays : (other : Desk) (line : Line) → other.doubt ≡ plain.doubt → IsToldDoubt other.doubt (core.ledger.book.lines ++ line ∷ [])
  doubt_stays other line same = told_on other.doubt core.ledger.book.lines line (subst (λ (d : Doubt). IsToldDoubt d core.ledger.book.lines) (sym same) is.doubt)

  or_none : (s : Option Stop) → option_or s None ≡ s
  or_none None = refl
  or_none (Some x) = refl

  pub with_nothing : (h : History) → with_changes h [] ≡ h
  with_nothing h = ap (λ (l : List Change). let r : History = record h { changes = l } in r) (append-nil h.changes)

  -- behind a line that leaves the log, and the plain desk, as they are
  pub core_quiet : (new : Core D) (other : Desk) (line : Line) → new.ledger.book.lines ≡ core.ledger.book.lines ++ line ∷ [] → new.ledger.book.pages ≡ core.ledger.book.pages → IsLedger (now opening).base new.ledger
      → IsDesk honest state new.desk other → DeskFits other → other.history ≡ plain.history → HoldsEdits new.desk.pool new.ledger.works.slots → IsQuiet line.what → new.desk.stop ≡ core.desk.stop → new.desk.base ≡ core.desk.base → other.doubt ≡ plain.doubt → IsCore honest state opening new other
  core_quiet new other line lines pages ledger desk fits history holds quiet stop base doubt =
      core_line new other line lines pages ledger desk fits
      (history ∙ sym (with_nothing plain.history) ∙ ap (λ (c : Option Change). with_changes plain.history (option_to_list c)) (sym (quiet.changes core.desk.base)))
      holds (stop ∙ sym (or_none core.desk.stop) ∙ ap (option_or core.desk.stop) (sym quiet.stops)) (ap (λ (b : Base). b.page_count) base) (doubt_stays other line doubt)

  -- behind no line
  pub core_still : (new : Core D) (other : Desk) → new.ledger.book.lines ≡ core.ledger.book.lines → new.ledger.book.pages ≡ core.ledger.book.pages → IsLedger (now opening).base new.ledger
      → IsDesk honest state new.desk other → DeskFits other → other.history ≡ plain.history → HoldsEdits new.desk.pool new.ledger.works.slots → new.desk.stop ≡ core.desk.stop → new.desk.base ≡ core.desk.base → IsToldDoubt other.doubt core.ledger.book.lines → IsCore honest state opening new other
  core_still new other lines pages ledger desk fits history holds stop base told = record {
    ledger = ledger;
    is = desk;
    fits = fits;
    journal = history ∙ is.journal ∙ ap (after_journal opening) (sym lines);
    pages = pages ∙ is.pages ∙ ap (λ (b : Base). b.page_count) (sym base);
    edits = holds;
    stop = stop ∙ is.stop ∙ ap first_stop (sym lines);
    doubt = subst (IsToldDoubt other.doubt) (sym lines) told;
  }
