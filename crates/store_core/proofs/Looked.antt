-- The core behind looks.
use Rattle.std.proofs.Common.{◌≡◌, ◌∙◌, ◌≤◌, ◌<◌, ◌+◌, ◌&&◌, ◌||◌, not, ℕ, Bool, true, false, cond, eqb, ltb, List, [], ◌∷◌, ◌++◌, length, map, refl, sym, ap, subst, arith, inl, inr, Option, Some, None, Result, Ok, Err}
use Rattle.std.specs.Prelude.{IfErr, OnOk}
use Rattle.std.specs.Option.{option_or}
use Rattle.std.proofs.lemmas.Bool.{eqb-false, le-leb, ltb-false}
use Rattle.std.proofs.lemmas.Bool.Decides.{nat_tests}
use Rattle.disk_model.specs.Disk.{State}
use Rattle.retro_base.specs.declared.refusal.Refusal.{Refusal}
use Rattle.retro_base.specs.declared.refusal.Refusal.TheVariants.{Dropped, JournalFull, OutOfMemory}
use Rattle.retro_base.specs.declared.who.Who.{Who}
use Rattle.history.specs.declared.entry.Base.{Base}
use Rattle.history.specs.declared.entry.Mark.{Mark}
use Rattle.history.specs.declared.journal.Line.{Line}
use Rattle.history.specs.declared.journal.What.TheVariants as whats
use Rattle.history.specs.History.{History, now}
use Rattle.history.specs.Lines.{base_of, images_in, pinned_by}
use Rattle.history.specs.Marks.{MarksRise, is_retained, newest, oldest}
use Rattle.history.specs.Sound.{pins_of}
use Rattle.history.specs.Writes.{rises}
use Rattle.history.proofs.Items.{looks_pin, same_self}
use Rattle.records.specs.Entries.{IsNumberedFrom}
use Rattle.race_model.specs.Desk.{Desk}
use Rattle.journal_book.specs.declared.work.Look.{Look}
use Rattle.journal_book.specs.declared.work.Work.TheVariants.{Looking}
use Rattle.journal_book.specs.Book.{Book, SESSION_LINES, lines_needed, lines_refused}
use Rattle.journal_book.specs.Works.{work_at}
use Rattle.txn_set.specs.declared.ledger.Ledger.{Ledger}
use Rattle.txn_set.specs.Ledger.{IsRefusedWith, given_up, is_idle, line_of, looking, opened, with_told_line}
use Rattle.txn_set.specs.Refused.{look_refused, no_snapshot, where_so}
use Rattle.txn_set.specs.WorksFit.{WorksFit, pins_at}
use Rattle.txn_set.proofs.FitSteps.{idle_none}
use Rattle.store_core.specs.declared.desk_core.Core.{Core}
use Rattle.store_core.specs.Core.{IsCore}
use Rattle.store_core.proofs.Cores.{append-nil, base_is, core_quiet}
use Rattle.store_core.proofs.Ledgers.{has_room, ledger_told, none_pinned}
use Rattle.store_core.specs.Calls.{HasOpened}
use Rattle.store_core.proofs.Committed.{base_right}
use Rattle.store_core.proofs.Opened.{core_given_up, core_opened, core_opens, quiet_looked, quiet_looked_all, quiet_refused}
use Rattle.store_core.proofs.Pins.{look_pins}

-- ---- which snapshots are retained

-- among snapshots without gaps, each up to the newest is there
numbered_all : (from number : ℕ) (mark : Mark) (marks : List Mark) → IsNumberedFrom from (mark ∷ marks) → from ≤ number → number ≤ newest (mark ∷ marks) → is_retained number (mark ∷ marks) ≡ true
numbered_all from number mark [] are low high = one (eqb mark.number number) refl where
  one : (test : Bool) → eqb mark.number number ≡ test → is_retained number (mark ∷ []) ≡ true
  one true e = ap (λ (b : Bool). b || false) e
  one false e = absurd (eqb-false mark.number number e (omega (arith, are.0, low, high)))
numbered_all from number mark (next ∷ marks) are low high = one (λ above. numbered_all (from + 1) number next marks are.1 above high) (eqb mark.number number) refl where
  one : (from + 1 ≤ number → is_retained number (next ∷ marks) ≡ true) → (test : Bool) → eqb mark.number number ≡ test → is_retained number (mark ∷ next ∷ marks) ≡ true
  one later true e = ap (λ (b : Bool). b || is_retained number (next ∷ marks)) e
  one later false e =
      let other : mark.number ≡ number → ⊥ = eqb-false mark.number number e in
      ap (λ (b : Bool). b || is_retained number (next ∷ marks)) e ∙ later (omega (arith, are.0, low, other))

none_first : {X : Type 0} (a b : Option X) → option_or a b ≡ None → a ≡ None
none_first None b e = refl
none_first (Some x) b e = absurd cc

none_next : {X : Type 0} (a b : Option X) → option_or a b ≡ None → b ≡ None
none_next None b e = e
none_next (Some x) b e = absurd cc

not_so : (test : Bool) (why : Refusal) → where_so test why ≡ None → test ≡ false
not_so false why e = refl
not_so true why e = absurd cc

parts : (a b : Bool) → a || b ≡ false → (a ≡ false) × (b ≡ false)
parts true b e = absurd cc
parts false b e = (refl, e)

-- a look that is not refused is at a retained snapshot
pub look_retained : (marks : List Mark) (number : ℕ) → IsNumberedFrom (oldest marks) marks → look_refused number (oldest marks) (newest marks) ≡ None → is_retained number marks ≡ true
look_retained marks number numbered none = go marks numbered bounds where
  bounds : (oldest marks ≤ number) × (number ≤ newest marks) × (0 < number)
  bounds =
      let known = parts (eqb number 0) (ltb (newest marks) number) (not_so _ _ (none_first (no_snapshot number (newest marks)) _ none)) in
      let low = ltb-false number (oldest marks) (not_so _ _ (none_next (no_snapshot number (newest marks)) (where_so (ltb number (oldest marks)) (Dropped number (oldest marks))) none)) in
      (low, ltb-false (newest marks) number known.1, positive (eqb-false number 0 known.0)) where
        positive : (number ≡ 0 → ⊥) → 0 < number
        positive other = omega (arith, other)

  go : (marks : List Mark) → IsNumberedFrom (oldest marks) marks → (oldest marks ≤ number) × (number ≤ newest marks) × (0 < number) → is_retained number marks ≡ true
  go [] are b = absurd (omega (arith, b.1, b.2))
  go (mark ∷ more) are b = numbered_all mark.number number mark more are b.0 b.1

-- ---- room for one line where there is room for two

pub room_less : (book : Book) → lines_refused book 2 ≡ None → lines_refused book 1 ≡ None
room_less book e = at (ltb SESSION_LINES (lines_needed book 1)) refl where
  at : (test : Bool) → ltb SESSION_LINES (lines_needed book 1) ≡ test → cond test (Some (JournalFull (lines_needed book 1) (images_in book.lines))) None ≡ None
  at true t = absurd (grind (arith, nat_tests, t, has_room book 2 e))
  at false t = refl

module _ {D : Type 0} (honest : D → Type 0) (state : D → State) (opening : History) (core : Core D) (plain : Desk) (is : IsCore honest state opening core plain) where
  -- a line told that neither opens nor closes
  pub core_refused : (who : Who) (why : Refusal) → work_at core.ledger.works.slots who.session ≡ None → lines_refused core.ledger.book 1 ≡ None → WorksFit (with_told_line who (whats.Refused why) core.ledger)
      → IsCore honest state opening (record { desk = core.desk; ledger = with_told_line who (whats.Refused why) core.ledger }) plain
  core_refused who why none room fits =
      core_quiet honest state opening core plain is (record { desk = core.desk; ledger = with_told_line who (whats.Refused why) core.ledger }) plain (line_of who (whats.Refused why)) refl refl
      (ledger_told (now opening).base core.ledger is.ledger who (whats.Refused why) none refl room tt fits) is.is is.fits refl is.edits (quiet_refused why) refl refl refl

  core_looking : (who : Who) (number : ℕ) (lines : List Line) → work_at core.ledger.works.slots who.session ≡ None → lines_refused core.ledger.book 2 ≡ None → WorksFit (opened who (whats.Looked number) (looking who lines (number ∷ [])) core.ledger)
      → is_retained number core.desk.base.marks ≡ true → IsCore honest state opening (record { desk = core.desk; ledger = opened who (whats.Looked number) (looking who lines (number ∷ [])) core.ledger }) plain
  core_looking who number lines none room fits retained =
      let look : Look = record { who = who; began = length lines; pins = number ∷ [] } in
      core_opened honest state opening core plain is who (whats.Looked number) (Looking look) none room fits
      (subst (λ (b : Base). is_retained number b.marks ≡ true) (base_is honest state opening core plain is) retained) (look_pins who look refl)
      ((looks_pin (now opening).base core.ledger.book.lines (line_of who (whats.Looked number))).0 number refl
      ∙ ap (λ (l : List ℕ). number ∷ l) (none_pinned (now opening).base core.ledger is.ledger who none)
      ∙ sym (ap (λ (b : Bool). cond b (number ∷ []) []) (same_self who))) refl (quiet_looked number)

-- the core behind a look
pub core_looks : {D : Type 0} (honest : D → Type 0) (state : D → State) (opening : History) (core : Core D) (plain : Desk) → IsCore honest state opening core plain → (who : Who) (number old new : ℕ) (ledger : Ledger) (result : Result (Unit {0}) Refusal)
    → old ≡ oldest core.desk.base.marks → new ≡ newest core.desk.base.marks → is_idle who (work_at core.ledger.works.slots who.session) ≡ true
    → ((why : Refusal) → lines_refused (given_up who core.ledger).book 2 ≡ Some why → (result ≡ Err why) × (ledger ≡ given_up who core.ledger))
    → ((why : Refusal) → lines_refused (given_up who core.ledger).book 2 ≡ None → look_refused number old new ≡ Some why → IsRefusedWith (given_up who core.ledger) (with_told_line who (whats.Refused why) (given_up who core.ledger)) why result ledger)
    → OnOk result (ledger ≡ opened who (whats.Looked number) (looking who core.ledger.book.lines (number ∷ [])) (given_up who core.ledger))
    → (lines_refused (given_up who core.ledger).book 2 ≡ None → look_refused number old new ≡ None → IfErr result (λ why. (why ≡ OutOfMemory) × (ledger ≡ given_up who core.ledger)))
    → WorksFit ledger → IsCore honest state opening (record { desk = core.desk; ledger = ledger }) plain
core_looks {D = D} honest state opening core plain is who number old new ledger result old_is new_is idle full refused done memory fits = room (lines_refused (given_up who core.ledger).book 2) refl where
  g : Ledger
  g = given_up who core.ledger

  given : IsCore honest state opening (record { desk = core.desk; ledger = g }) plain
  given = core_given_up honest state opening core plain is who

  stays : ledger ≡ g → IsCore honest state opening (record { desk = core.desk; ledger = ledger }) plain
  stays e = subst (λ (l : Ledger). IsCore honest state opening (record { desk = core.desk; ledger = l }) plain) (sym e) given

  none : work_at g.works.slots who.session ≡ None
  none = idle_none core.ledger who idle

  told_so : (why : Refusal) (r : Result (Unit {0}) Refusal) → lines_refused g.book 2 ≡ None → IsRefusedWith g (with_told_line who (whats.Refused why) g) why r ledger → IsCore honest state opening (record { desk = core.desk; ledger = ledger }) plain
  told_so why (Ok x) free h = absurd h
  told_so why (Err other) free (inl h) =
      subst (λ (l : Ledger). IsCore honest state opening (record { desk = core.desk; ledger = l }) plain) (sym h.1)
      (core_refused honest state opening (record { desk = core.desk; ledger = g }) plain given who why none (room_less g.book free) (subst WorksFit h.1 fits))
  told_so why (Err other) free (inr h) = stays h.1

  opens : (r : Result (Unit {0}) Refusal) → result ≡ r → lines_refused g.book 2 ≡ None → look_refused number old new ≡ None → IsCore honest state opening (record { desk = core.desk; ledger = ledger }) plain
  opens (Ok x) e free allowed =
      let opened_so = subst (λ (r : Result (Unit {0}) Refusal). OnOk r (ledger ≡ opened who (whats.Looked number) (looking who core.ledger.book.lines (number ∷ [])) g)) e done in
      subst (λ (l : Ledger). IsCore honest state opening (record { desk = core.desk; ledger = l }) plain) (sym opened_so)
      (core_looking honest state opening (record { desk = core.desk; ledger = g }) plain given who number core.ledger.book.lines none free (subst WorksFit opened_so fits)
      (look_retained core.desk.base.marks number is.is.fits.numbered (ap (λ (n : ℕ). look_refused number n (newest core.desk.base.marks)) (sym old_is) ∙ ap (look_refused number old) (sym new_is) ∙ allowed)))
  opens (Err why) e free allowed = stays (subst (λ (r : Result (Unit {0}) Refusal). IfErr r (λ w. (w ≡ OutOfMemory) × (ledger ≡ g))) e (memory free allowed)).1

  allowed : (r : Option Refusal) → look_refused number old new ≡ r → lines_refused g.book 2 ≡ None → IsCore honest state opening (record { desk = core.desk; ledger = ledger }) plain
  allowed None e free = opens result refl free e
  allowed (Some why) e free = told_so why result free (refused why free e)

  room : (r : Option Refusal) → lines_refused g.book 2 ≡ r → IsCore honest state opening (record { desk = core.desk; ledger = ledger }) plain
  room None e = allowed (look_refused number old new) refl e
  room (Some why) e = stays (full why e).1

-- what a look that was not refused tells
pub look_allowed : (full refused : Option Refusal) → ((why : Refusal) → full ≡ Some why → ⊥) → ((why : Refusal) → full ≡ None → refused ≡ Some why → ⊥) → refused ≡ None
look_allowed None None room not = refl
look_allowed None (Some why) room not = absurd (not why refl refl)
look_allowed (Some why) refused room not = absurd (room why refl)

-- ---- a look at all

abbrev numbers : List Mark → List ℕ
numbers marks = map (λ (mark : Mark). mark.number) marks

numbers_rise : (captures number start : ℕ) (marks : List Mark) → MarksRise captures number start marks → (least : ℕ) → least ≤ number + 1 → rises least (numbers marks) ≡ true
numbers_rise captures number start [] up least low = refl
numbers_rise captures number start (mark ∷ marks) up least low =
    ap (λ (b : Bool). b && rises (mark.number + 1) (numbers marks)) (le-leb least mark.number (omega (arith, low, up.0))) ∙ numbers_rise captures mark.number mark.start marks up.2 (mark.number + 1) (omega arith)

module _ {D : Type 0} (honest : D → Type 0) (state : D → State) (opening : History) (core : Core D) (plain : Desk) (is : IsCore honest state opening core plain) where
  pub retained_rise : rises 0 (numbers core.desk.base.marks) ≡ true
  retained_rise = numbers_rise core.desk.base.captures 0 0 core.desk.base.marks (base_right honest state opening core plain is).marks 0 (omega arith)

  all_pinned : (who : Who) (began : ℕ) → work_at core.ledger.works.slots who.session ≡ None
      → pinned_by who (pins_of (now opening).base [] (core.ledger.book.lines ++ line_of who whats.LookedAll ∷ [])) ≡ pins_at who (Some (Looking (record { who = who; began = began; pins = numbers core.desk.base.marks })))
  all_pinned who began none =
      (looks_pin (now opening).base core.ledger.book.lines (line_of who whats.LookedAll)).1 refl
      ∙ ap (λ (l : List ℕ). numbers (base_of (now opening).base core.ledger.book.lines).marks ++ l) (none_pinned (now opening).base core.ledger is.ledger who none)
      ∙ append-nil (numbers (base_of (now opening).base core.ledger.book.lines).marks)
      ∙ ap (λ (b : Base). numbers b.marks) (sym (base_is honest state opening core plain is))
      ∙ sym (ap (λ (b : Bool). cond b (numbers core.desk.base.marks) []) (same_self who))

-- the core behind it
pub core_looks_all : {D T : Type 0} (honest : D → Type 0) (state : D → State) (opening : History) (core : Core D) (plain : Desk) → IsCore honest state opening core plain → (who : Who) (ledger : Ledger) (result : Result T Refusal)
    → is_idle who (work_at core.ledger.works.slots who.session) ≡ true → HasOpened who whats.LookedAll (looking who core.ledger.book.lines (numbers core.desk.base.marks)) core.ledger ledger result → WorksFit ledger
    → IsCore honest state opening (record { desk = core.desk; ledger = ledger }) plain
core_looks_all {D = D} honest state opening core plain is who ledger result idle has fits =
    let look : Look = record { who = who; began = length core.ledger.book.lines; pins = numbers core.desk.base.marks } in
    let given : Core D = record { desk = core.desk; ledger = given_up who core.ledger } in
    core_opens honest state opening core plain is who whats.LookedAll (Looking look) ledger result idle has fits tt (look_pins who look refl)
    (all_pinned honest state opening given plain (core_given_up honest state opening core plain is who) who (length core.ledger.book.lines) (idle_none core.ledger who idle)) refl quiet_looked_all
