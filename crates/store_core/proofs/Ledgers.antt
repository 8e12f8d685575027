-- The ledger behind each call.
use Rattle.std.proofs.Common.{◌≡◌, ◌∙◌, ◌≤◌, ◌<◌, ◌+◌, ℕ, ltb, Bool, true, false, cond, eqb, List, [], ◌∷◌, ◌++◌, length, length-append, refl, sym, ap, subst, arith, Option, Some, None}
use Rattle.std.specs.Prelude.{IsSome}
use Rattle.std.specs.List.{AllByRecursion}
use Rattle.std.proofs.lemmas.Bool.{eqb-true, ltb-false}
use Rattle.retro_base.specs.declared.limits.TheConstants.{JOURNAL_LINES, PAGE_BYTES}
use Rattle.retro_base.specs.declared.refusal.Refusal.TheVariants.{JournalFull}
use Rattle.retro_base.specs.declared.who.Who.{Who}
use Rattle.history.specs.declared.entry.Base.{Base}
use Rattle.history.specs.declared.journal.Line.{Line}
use Rattle.history.specs.declared.journal.What.{What}
use Rattle.history.specs.declared.journal.What.TheVariants as whats
use Rattle.history.specs.declared.writes.PageImage.{PageImage}
use Rattle.history.specs.Lines.{base_of, begins, images_in, pinned_by}
use Rattle.history.specs.Sound.{IsSound, KeepsRules, pins_behind, pins_of}
use Rattle.history.proofs.Items.{ended_pins_nothing}
use Rattle.history.proofs.Lines.{pins_of_one_more}
use Rattle.history.proofs.SoundLaws.{sound_with_one_more}
use Rattle.journal_book.specs.declared.work.Transaction.{Transaction}
use Rattle.journal_book.specs.declared.work.Work.{Work}
use Rattle.journal_book.specs.declared.work.Work.TheVariants.{Open, Looking, KeptDrop}
use Rattle.journal_book.specs.Book.{Book, SESSION_LINES, lines_needed, lines_refused, noting}
use Rattle.journal_book.specs.Works.{edits_of, work_at, with_work}
use Rattle.journal_book.proofs.Slots.{work_at_with}
use Rattle.txn_set.specs.declared.ledger.Ledger.{Ledger}
use Rattle.txn_set.specs.Ledger.{IsKeptDrop, closed, committed, given_up, gives_up, keeping_drop, keeps_other_drop, line_of, opened, taken, with_told_line, with_open}
use Rattle.txn_set.specs.WorksFit.{WorksFit, pins_at}
use Rattle.txn_set.proofs.FitSteps.{fits_gives_up}
use Rattle.txn_set.proofs.LedgerSteps.{some_kept}
use Rattle.store_core.specs.Core.{IsLedger}
use Rattle.store_core.proofs.Pins.{PinsForNone, none_pins, open_pins, pins_behind_line, pins_same}

abbrev Whole : PageImage → Type 0
Whole edit = length edit.bytes ≡ PAGE_BYTES

whole_with : (slots : List (Option Work)) (session : ℕ) (work : Option Work) → ((other : ℕ) → AllByRecursion Whole (edits_of (work_at slots other))) → AllByRecursion Whole (edits_of work)
    → (other : ℕ) → AllByRecursion Whole (edits_of (work_at (with_work slots session work) other))
whole_with slots session work before whole other =
    subst (λ (w : Option Work). AllByRecursion Whole (edits_of w)) (sym (work_at_with slots session other work)) (at (eqb other session)) where
      at : (test : Bool) → AllByRecursion Whole (edits_of (cond test work (work_at slots other)))
      at true = whole
      at false = before other

still_none : (slots : List (Option Work)) (session : ℕ) → work_at slots session ≡ None → (other : ℕ) → work_at (with_work slots session None) other ≡ work_at slots other
still_none slots session none other = work_at_with slots session other None ∙ at (eqb other session) refl where
  at : (test : Bool) → eqb other session ≡ test → cond test None (work_at slots other) ≡ work_at slots other
  at true e = sym (ap (work_at slots) (eqb-true other session e) ∙ none)
  at false e = refl

-- where so many lines find room, there are places for them
pub has_room : (book : Book) (more : ℕ) → lines_refused book more ≡ None → length book.lines + book.kept + more ≤ SESSION_LINES
has_room book more e = at (ltb SESSION_LINES (lines_needed book more)) refl e where
  at : (test : Bool) → ltb SESSION_LINES (lines_needed book more) ≡ test → cond test (Some (JournalFull (lines_needed book more) (images_in book.lines))) None ≡ None → lines_needed book more ≤ SESSION_LINES
  at true e none = absurd cc
  at false e none = ltb-false SESSION_LINES (lines_needed book more) e

-- a line that begins nothing pins nothing, where its item pinned nothing
pub own_ended : (opening : Base) (lines : List Line) (line : Line) → begins line.what ≡ false → pinned_by line.who (pins_of opening [] lines) ≡ [] → pinned_by line.who (pins_of opening [] (lines ++ line ∷ [])) ≡ []
own_ended opening lines line not_begun none = at line.what refl not_begun where
  still : pins_behind (base_of opening lines) (pins_of opening [] lines) line.who line.what ≡ pins_of opening [] lines → pinned_by line.who (pins_of opening [] (lines ++ line ∷ [])) ≡ []
  still same = ap (pinned_by line.who) (pins_of_one_more opening lines line ∙ same) ∙ none

  behind_as : (what : What) → line.what ≡ what → pins_behind (base_of opening lines) (pins_of opening [] lines) line.who line.what ≡ pins_behind (base_of opening lines) (pins_of opening [] lines) line.who what
  behind_as what e = ap (pins_behind (base_of opening lines) (pins_of opening [] lines) line.who) e

  at : (what : What) → line.what ≡ what → begins what ≡ false → pinned_by line.who (pins_of opening [] (lines ++ line ∷ [])) ≡ []
  at whats.Began e n = absurd cc
  at (whats.Done label writes) e n = still (behind_as _ e)
  at (whats.Overlapped session item) e n = still (behind_as _ e)
  at whats.RolledBack e n = still (behind_as _ e)
  at (whats.Looked snapshot) e n = absurd cc
  at whats.LookedAll e n = absurd cc
  at whats.Unlooked e n = ended_pins_nothing opening lines line cc
  at (whats.Dropped below) e n = still (behind_as _ e)
  at (whats.Refused why) e n = ended_pins_nothing opening lines line cc
  at (whats.Fault device count call) e n = ended_pins_nothing opening lines line cc

module _ (opening : Base) (l : Ledger) (is : IsLedger opening l) where
  abbrev Rules : What → Type 0
  Rules what = KeepsRules (base_of opening l.book.lines) (pins_of opening [] l.book.lines) what

  -- one line more is sound, where there is a place for it
  pub one_more : (line : Line) → length l.book.lines < JOURNAL_LINES → Rules line.what → IsSound opening (l.book.lines ++ line ∷ [])
  one_more line room rules = (sound_with_one_more opening l.book.lines line).1 (is.sound, room, rules)

  pub ledger_opened : (who : Who) (what : What) (work : Work) → work_at l.works.slots who.session ≡ None → lines_refused l.book 2 ≡ None → WorksFit (opened who what work l) → Rules what
      → PinsForNone who (Some work) → pinned_by who (pins_of opening [] (l.book.lines ++ line_of who what ∷ [])) ≡ pins_at who (Some work) → edits_of (Some work) ≡ [] → IsLedger opening (opened who what work l)
  ledger_opened who what work none room fits rules others own edits =
      let places = has_room l.book 2 room in
      record {
        sound = one_more (line_of who what) (omega (arith, places)) rules;
        places = record { places = omega (arith, places, is.places.workers, length-append l.book.lines (line_of who what ∷ [])); workers = is.places.workers };
        works = fits;
        pins = record { pins = pins_behind_line opening l.book.lines l.works.slots is.pins.pins (line_of who what) (Some work) (subst (PinsForNone who) (sym none) (none_pins who)) others own };
        whole = whole_with l.works.slots who.session (Some work) is.whole (subst (AllByRecursion Whole) (sym edits) tt);
      }

  -- a session without a work pins nothing
  pub none_pinned : (who : Who) → work_at l.works.slots who.session ≡ None → pinned_by who (pins_of opening [] l.book.lines) ≡ []
  none_pinned who none = is.pins.pins who ∙ ap (pins_at who) none

  -- a line that closes a work
  pub ledger_closed : (who : Who) (what : What) → IsSome (work_at l.works.slots who.session) → begins what ≡ false → Rules what → PinsForNone who (work_at l.works.slots who.session)
      → pinned_by who (pins_of opening [] (l.book.lines ++ line_of who what ∷ [])) ≡ [] → WorksFit (closed who what l) → IsLedger opening (closed who what l)
  ledger_closed who what there not_begun rules others own fits =
      let kept : 1 ≤ l.book.kept = subst (λ (n : ℕ). 1 ≤ n) (sym is.works.kept) (some_kept l.works.slots who.session there) in
      record {
        sound = one_more (line_of who what) (omega (arith, kept, is.places.places)) rules;
        places = record { places = omega (arith, kept, is.places.places, length-append l.book.lines (line_of who what ∷ [])); workers = is.places.workers };
        works = fits;
        pins = record { pins = pins_behind_line opening l.book.lines l.works.slots is.pins.pins (line_of who what) None others (none_pins who) own };
        whole = whole_with l.works.slots who.session None is.whole tt;
      }

  -- of a line that neither opens nor closes, where it finds room
  pub ledger_told : (who : Who) (what : What) → work_at l.works.slots who.session ≡ None → begins what ≡ false → lines_refused l.book 1 ≡ None → Rules what → WorksFit (with_told_line who what l) → IsLedger opening (with_told_line who what l)
  ledger_told who what none not_begun room rules fits =
      let places = has_room l.book 1 room in
      record {
        sound = one_more (line_of who what) (omega (arith, places)) rules;
        places = record { places = omega (arith, places, is.places.workers, length-append l.book.lines (line_of who what ∷ [])); workers = is.places.workers };
        works = fits;
        pins = record { pins = pins_told };
        whole = is.whole;
      } where
        pins_told : (other : Who) → pinned_by other (pins_of opening [] (l.book.lines ++ line_of who what ∷ [])) ≡ pins_at other (work_at l.works.slots other.session)
        pins_told other =
            pins_behind_line opening l.book.lines l.works.slots is.pins.pins (line_of who what) None (subst (PinsForNone who) (sym none) (none_pins who)) (none_pins who) (own_ended opening l.book.lines (line_of who what) not_begun (none_pinned who none)) other
            ∙ ap (pins_at other) (still_none l.works.slots who.session none other.session)

  -- the line of a drop given up
  pub ledger_gives_up : (session : ℕ) → IsKeptDrop (work_at l.works.slots session) → WorksFit (gives_up session l) → IsLedger opening (gives_up session l)
  ledger_gives_up session drop fits = record {
    sound = is.sound;
    places = record { places = omega (arith, is.places.places); workers = is.places.workers };
    works = fits;
    pins = record { pins = pins_same opening l.book.lines l.works.slots is.pins.pins session None (λ who at. same (work_at l.works.slots session) who drop) };
    whole = whole_with l.works.slots session None is.whole tt;
  } where
    same : (work : Option Work) (who : Who) → IsKeptDrop work → pins_at who None ≡ pins_at who work
    same None who d = refl
    same (Some (Open t)) who d = absurd d
    same (Some (Looking look)) who d = absurd d
    same (Some (KeptDrop other)) who d = refl

  -- an open transaction in the place of another
  pub ledger_with : (who : Who) (t new : Transaction) → work_at l.works.slots who.session ≡ Some (Open t) → AllByRecursion Whole new.edits → WorksFit (with_open who new l) → IsLedger opening (with_open who new l)
  ledger_with who t new there whole fits = record {
    sound = is.sound;
    places = is.places;
    works = fits;
    pins = record { pins = pins_same opening l.book.lines l.works.slots is.pins.pins who.session (Some (Open new)) (λ other at. sym (ap (pins_at other) there)) };
    whole = whole_with l.works.slots who.session (Some (Open new)) is.whole whole;
  }

  pub ledger_given_up : (who : Who) → IsLedger opening (given_up who l)
  ledger_given_up who = at (keeps_other_drop who (work_at l.works.slots who.session)) refl where
    kept : (work : Option Work) → keeps_other_drop who work ≡ true → IsKeptDrop work
    kept None e = absurd cc
    kept (Some (Open t)) e = absurd cc
    kept (Some (Looking look)) e = absurd cc
    kept (Some (KeptDrop other)) e = tt

    at : (test : Bool) → keeps_other_drop who (work_at l.works.slots who.session) ≡ test → IsLedger opening (cond test (gives_up who.session l) l)
    at true e = let drop = kept (work_at l.works.slots who.session) e in ledger_gives_up who.session drop (fits_gives_up l who.session is.works drop)
    at false e = is

  -- a place kept for the line of a drop
  pub ledger_keeping : (who : Who) → work_at l.works.slots who.session ≡ None → lines_refused l.book 1 ≡ None → WorksFit (keeping_drop who l) → IsLedger opening (keeping_drop who l)
  ledger_keeping who none room fits = record {
    sound = is.sound;
    places = record { places = omega (arith, has_room l.book 1 room, is.places.workers); workers = is.places.workers };
    works = fits;
    pins = record { pins = pins_same opening l.book.lines l.works.slots is.pins.pins who.session (Some (KeptDrop who)) (λ other at. sym (ap (pins_at other) none)) };
    whole = whole_with l.works.slots who.session (Some (KeptDrop who)) is.whole tt;
  }

  -- the line of a worker's fault
  pub ledger_noted : (who : Who) (what : What) → work_at l.works.slots who.session ≡ None → begins what ≡ false → 1 ≤ l.book.workers → Rules what → (new : Ledger)
      → new ≡ record l { book = noting l.book (line_of who what) } → WorksFit new → IsLedger opening new
  ledger_noted who what none not_begun worker rules new new_is fits = subst (IsLedger opening) (sym new_is) (record {
    sound = one_more (line_of who what) (omega (arith, worker, is.places.places)) rules;
    places = record { places = omega (arith, worker, is.places.places, length-append l.book.lines (line_of who what ∷ [])); workers = omega (arith, is.places.workers) };
    works = subst WorksFit new_is fits;
    pins = record { pins = pins_noted };
    whole = is.whole;
  }) where
    pins_noted : (other : Who) → pinned_by other (pins_of opening [] (l.book.lines ++ line_of who what ∷ [])) ≡ pins_at other (work_at l.works.slots other.session)
    pins_noted other =
        pins_behind_line opening l.book.lines l.works.slots is.pins.pins (line_of who what) None (subst (PinsForNone who) (sym none) (none_pins who)) (none_pins who) (own_ended opening l.book.lines (line_of who what) not_begun (none_pinned who none)) other
        ∙ ap (pins_at other) (still_none l.works.slots who.session none other.session)

  -- the line of a commit
  pub ledger_committed : (who : Who) (t : Transaction) (label : Option (List ℕ)) → work_at l.works.slots who.session ≡ Some (Open t) → Rules (whats.Done label t.edits) → WorksFit (committed who label t.edits (taken who l))
      → IsLedger opening (committed who label t.edits (taken who l))
  ledger_committed who t label there rules fits =
      let kept : 1 ≤ l.book.kept = subst (λ (n : ℕ). 1 ≤ n) (sym is.works.kept) (some_kept l.works.slots who.session (subst IsSome (sym there) refl)) in
      let what : What = whats.Done label t.edits in
      record {
        sound = one_more (line_of who what) (omega (arith, kept, is.places.places)) rules;
        places = record { places = omega (arith, kept, is.places.places, length-append l.book.lines (line_of who what ∷ [])); workers = is.places.workers };
        works = fits;
        pins = record { pins = pins_behind_line opening l.book.lines l.works.slots is.pins.pins (line_of who what) None (subst (PinsForNone who) (sym there) (open_pins who t)) (none_pins who) (own_ended opening l.book.lines (line_of who what) refl (is.pins.pins who ∙ ap (pins_at who) there)) };
        whole = whole_with l.works.slots who.session None is.whole tt;
      }
