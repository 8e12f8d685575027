-- What calls tell that find no room in the journal.
use Rattle.std.proofs.Common.{◌≡◌, ◌≤◌, ◌-◌, ◌∙◌, ◌==◌, ℕ, zero, suc, Bool, true, false, cond, List, [], ◌∷◌, Option, Some, None, Result, Ok, Err, refl, sym, ap, subst, ⊎_elim, arith}
use Rattle.std.specs.Prelude.{◌||◌, IsSome, nat_lt, not}
use Rattle.std.specs.Option.{option_or}
use Rattle.atomic_table.specs.Seated.{TableId}
use Rattle.disk_model.specs.Disk.{State}
use Rattle.retro_base.specs.declared.limits.TheConstants.{JOURNAL_LINES, WORKER_LINES}
use Rattle.retro_base.specs.declared.refusal.Refusal.{Refusal}
use Rattle.retro_base.specs.declared.refusal.Refusal.TheVariants as refusal
use Rattle.retro_base.specs.declared.who.Who.{Who}
use Rattle.history.specs.declared.journal.Line.{Line}
use Rattle.history.specs.declared.journal.What.{What}
use Rattle.history.specs.declared.journal.What.TheVariants.{Refused}
use Rattle.history.specs.Lines.{images_in}
use Rattle.journal_book.specs.declared.work.Work.{Work}
use Rattle.journal_book.specs.declared.work.Work.TheVariants.{KeptDrop, Looking, Open}
use Rattle.journal_book.specs.Book.{Book, lines_needed, lines_refused}
use Rattle.journal_book.specs.Works.{work_at}
use Rattle.journal_law.specs.Seats.{NeedsLines, TellsNeed}
use Rattle.txn_set.specs.declared.ledger.Ledger.{Ledger}
use Rattle.txn_set.specs.Ledger.{given_up, gives_up, keeps_drop, keeps_other_drop, with_told_line}
use Rattle.txn_set.specs.Refused.{look_refused, where_so}
use Rattle.txn_set.specs.WorksFit.{WorksFit, kept_lines}
use Rattle.txn_set.proofs.LedgerSteps.{some_kept}
use Rattle.store_core.specs.Calls.{HasLooked, HasOpened}
use Rattle.store_core.specs.Drops.{drop_line_refused}
use Rattle.turn.specs.Seats.{opening, seen}
use Rattle.store.specs.declared.desk_side.DeskSide.{DeskSide}
use Rattle.store.specs.Seats.{Sat, Visited, journal, slots_of}
use Rattle.store.specs.Seen.{seats_in, view_of}
use Rattle.journal_law.specs.declared.seat.ToldFault.{ToldFault}

-- a line is kept for each that has something open
kept_few : (slots : List (Option Work)) (seats : ℕ) → ((n : ℕ) → seats ≤ n → work_at slots n ≡ None) → kept_lines slots ≤ seats
kept_few [] seats none = omega arith
kept_few (None ∷ slots) zero none = kept_few slots zero (λ n le. none (suc n) (omega arith))
kept_few (None ∷ slots) (suc seats) none = let rest = kept_few slots seats (λ n le. none (suc n) (omega (arith, le))) in omega (arith, rest)
kept_few (Some w ∷ slots) zero none = absurd (cc (none 0 (omega arith)))
kept_few (Some w ∷ slots) (suc seats) none = let rest = kept_few slots seats (λ n le. none (suc n) (omega (arith, le))) in omega (arith, rest)

-- what a book refuses for room tells what it needs
sums : (book : Book) (more lines images : ℕ) → lines_refused book more ≡ Some (refusal.JournalFull lines images) → (lines ≡ lines_needed book more) × (images ≡ images_in book.lines)
sums book more lines images e = at (nat_lt (JOURNAL_LINES - WORKER_LINES) (lines_needed book more)) e where
  at : (test : Bool) → cond test (Some (refusal.JournalFull (lines_needed book more) (images_in book.lines))) None ≡ Some (refusal.JournalFull lines images) → (lines ≡ lines_needed book more) × (images ≡ images_in book.lines)
  at true s = (cc s, cc s)
  at false s = absurd (cc s)

always_full : (book : Book) (more : ℕ) (why : Refusal) → lines_refused book more ≡ Some why → (lines : ℕ) × (images : ℕ) × (why ≡ refusal.JournalFull lines images)
always_full book more why e = at (nat_lt (JOURNAL_LINES - WORKER_LINES) (lines_needed book more)) e where
  at : (test : Bool) → cond test (Some (refusal.JournalFull (lines_needed book more) (images_in book.lines))) None ≡ Some why → (lines : ℕ) × (images : ℕ) × (why ≡ refusal.JournalFull lines images)
  at true s = (lines_needed book more, images_in book.lines, cc s)
  at false s = absurd (cc s)

module _ {D : Type 0} (is_honest : D → Type 0) (state : D → State) (faults : D → ℕ) (z : TableId) (s0 s1 : Sat D) (d0 d1 : DeskSide D) (v : Visited is_honest state faults z s0 s1 d0 d1) (who : Who) where
  works : WorksFit d0.core.ledger
  works = (v.stands.stands v.stands.origin v.stands.opened).is.ledger.works

  few : d0.core.ledger.book.kept ≤ d0.start.seats.value
  few = let slots = kept_few (slots_of d0) d0.start.seats.value v.keeps.of_seats in let kept = works.kept in omega (arith, slots, kept)

  -- as many seats as the one that called sees
  seats_there : d0.start.seats.value ≡ seats_in (opening s1)
  seats_there = sym (ap seats_in (v.same.opening ∙ v.opening))

  -- ---- a drop

  pub drop_needs : (lines images : ℕ) → drop_line_refused who d0.core.ledger ≡ Some (refusal.JournalFull lines images) → NeedsLines (seats_in (opening s1)) (journal d0) 1 lines images
  drop_needs lines images e = subst (λ (n : ℕ). NeedsLines n (journal d0) 1 lines images) seats_there (by_own (keeps_drop who Own) refl (keeps_other_drop who Own) refl e) where
    Own : Option Work
    Own = work_at (slots_of d0) who.session

    Here : Type 0
    Here = NeedsLines d0.start.seats.value (journal d0) 1 lines images

    some_own : keeps_drop who Own ≡ true → 1 ≤ d0.core.ledger.book.kept
    some_own k = let kept = works.kept in let one = some_kept (slots_of d0) who.session (is_there Own k) in omega (arith, kept, one)
      where
        is_there : (w : Option Work) → keeps_drop who w ≡ true → IsSome w
        is_there (Some w) k = refl
        is_there None k = absurd (cc k)

    by_own : (own : Bool) → keeps_drop who Own ≡ own → (other : Bool) → keeps_other_drop who Own ≡ other
        → lines_refused (cond other (gives_up who.session d0.core.ledger) d0.core.ledger).book (cond own 0 1) ≡ Some (refusal.JournalFull lines images) → Here
    by_own true k false o f =
        let s = sums d0.core.ledger.book 0 lines images f in
        record { kept = d0.core.ledger.book.kept - 1; one_each = omega (arith, few); sum = let one = some_own k in let all = s.0 in omega (arith, one, all); images_are = s.1 }
    by_own true k true o f = absurd (both Own k o)
      where
        clash : (same : Bool) → same ≡ true → not same ≡ true → ⊥
        clash true k o = cc
        clash false k o = cc

        both : (w : Option Work) → keeps_drop who w ≡ true → keeps_other_drop who w ≡ true → ⊥
        both (Some (KeptDrop other)) k o = clash (other.phase == who.phase) k o
        both (Some (Open t)) k o = cc
        both (Some (Looking look)) k o = cc
        both None k o = cc
    by_own false k false o f =
        let s = sums d0.core.ledger.book 1 lines images f in
        record { kept = d0.core.ledger.book.kept; one_each = few; sum = s.0; images_are = s.1 }
    by_own false k true o f =
        let s = sums (gives_up who.session d0.core.ledger).book 1 lines images f in
        record { kept = d0.core.ledger.book.kept - 1; one_each = omega (arith, few); sum = s.0; images_are = s.1 }

  -- ---- calls that open something

  module _ (asked : Option ℕ) (told : List ToldFault) (given : given_up who d0.core.ledger ≡ d0.core.ledger) where
    abbrev Tells : {T : Type 0} → Result T Refusal → Type 0
    Tells = TellsNeed (seats_in (opening s1)) 2 (view_of state faults asked told s1)

    memory_tells : (T : Type 0) (why : Refusal) → why ≡ refusal.OutOfMemory → Tells {T = T} (Err why)
    memory_tells T why m = subst (λ (w : Refusal). Tells {T = T} (Err w)) (sym m) tt

    full_tells : (T : Type 0) (why : Refusal) → lines_refused (given_up who d0.core.ledger).book 2 ≡ Some why → d1.core.ledger ≡ given_up who d0.core.ledger → Tells {T = T} (Err why)
    full_tells T why e same =
        let f = always_full (given_up who d0.core.ledger).book 2 why e in
        let s = sums d0.core.ledger.book 2 f.0 f.1 (ap (λ (l : Ledger). lines_refused l.book 2) (sym given) ∙ (e ∙ ap Some f.2)) in
        let front : seen s1 ≡ journal d0 = v.seen ∙ ap (λ (l : Ledger). l.book.lines) (same ∙ given) in
        subst (λ (w : Refusal). Tells {T = T} (Err w)) (sym f.2)
        (subst (λ (ls : List Line). NeedsLines (seats_in (opening s1)) ls 2 f.0 f.1) (sym front)
        (subst (λ (n : ℕ). NeedsLines n (journal d0) 2 f.0 f.1) seats_there (record { kept = d0.core.ledger.book.kept; one_each = few; sum = s.0; images_are = s.1 })))

    pub opened_tells : {T : Type 0} (what : What) (w : Work) (r : Result T Refusal) → HasOpened who what w d0.core.ledger d1.core.ledger r → Tells r
    opened_tells what w (Ok x) has = tt
    opened_tells {T = T} what w (Err why) has = at (lines_refused (given_up who d0.core.ledger).book 2) refl where
      at : (r : Option Refusal) → lines_refused (given_up who d0.core.ledger).book 2 ≡ r → Tells {T = T} (Err why)
      at None e = memory_tells T why (has.memory e)
      at (Some because) e = let same : because ≡ why = cc (has.full because e) in full_tells T why (e ∙ ap Some same) has.stays

    pub looked_tells : (n oldest newest : ℕ) (why : Refusal) → HasLooked {T = ℕ} who n oldest newest d0.core.ledger d1.core.ledger (Err why) → Tells {T = Unit {0}} (Err why)
    looked_tells n oldest newest why has = at (lines_refused (given_up who d0.core.ledger).book 2) refl where
      -- a number is refused as such
      number_tells : (because : Refusal) → look_refused n oldest newest ≡ Some because → Tells {T = Unit {0}} (Err because)
      number_tells because e = by_test ((n == 0) || nat_lt newest n) (nat_lt n oldest) e where
        by_test : (one other : Bool) → option_or (where_so one (refusal.NoSuchSnapshot n newest)) (where_so other (refusal.Dropped n oldest)) ≡ Some because → Tells {T = Unit {0}} (Err because)
        by_test true other s = let is : refusal.NoSuchSnapshot n newest ≡ because = cc s in subst (λ (w : Refusal). Tells {T = Unit {0}} (Err w)) is tt
        by_test false true s = let is : refusal.Dropped n oldest ≡ because = cc s in subst (λ (w : Refusal). Tells {T = Unit {0}} (Err w)) is tt
        by_test false false s = absurd (cc s)

      at : (r : Option Refusal) → lines_refused (given_up who d0.core.ledger).book 2 ≡ r → Tells {T = Unit {0}} (Err why)
      at (Some because) e = let f = has.full because e in let same : because ≡ why = cc f.0 in full_tells (Unit {0}) why (e ∙ ap Some same) f.1
      at None e = by_number (look_refused n oldest newest) refl where
        by_number : (r : Option Refusal) → look_refused n oldest newest ≡ r → Tells {T = Unit {0}} (Err why)
        by_number None f = memory_tells (Unit {0}) why (has.memory e f).0
        by_number (Some because) f = ⊎_elim (λ (x : (why ≡ because) × (d1.core.ledger ≡ with_told_line who (Refused because) (given_up who d0.core.ledger))). subst (λ (w : Refusal). Tells {T = Unit {0}} (Err w)) (sym x.0) (number_tells because f))
            (λ (x : (why ≡ refusal.OutOfMemory) × (d1.core.ledger ≡ given_up who d0.core.ledger)). memory_tells (Unit {0}) why x.0) (has.refused because e f)
