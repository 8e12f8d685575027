-- Journals: the changes that their lines leave, and what they keep.
use Rattle.std.proofs.Common.{◌≡◌, inl, inr, ◌≤◌, ◌+◌, ◌∙◌, not, ℕ, Bool, true, false, cond, eqb, leb, ltb, List, [], ◌∷◌, ◌++◌, length, take, map, Some, None, refl, sym, ap, subst, arith, length-append, append_assoc}
use Rattle.std.specs.Prelude.{filter}
use Rattle.std.specs.List.{AllByRecursion}
use Rattle.std.specs.Option.{option_to_list}
use Rattle.std.proofs.lemmas.Bool.{or_cases, or_left, or_right, leb-false, eqb-true, eq-eqb}
use Rattle.std.proofs.lemmas.List.{append-nil, take_at}
use Rattle.history.specs.declared.entry.Base.{Base}
use Rattle.history.specs.declared.entry.Mark.{Mark}
use Rattle.history.specs.declared.entry.Change.{Change}
use Rattle.history.specs.declared.entry.Change.TheVariants.{Commit, Drop}
use Rattle.history.specs.declared.journal.Line.{Line}
use Rattle.history.specs.declared.journal.What.{What}
use Rattle.history.specs.declared.journal.What.TheVariants.{Began, Done, Overlapped, RolledBack, Looked, LookedAll, Unlooked, Dropped, Refused, Fault}
use Rattle.history.specs.declared.writes.PageImage.{PageImage}
use Rattle.retro_base.specs.declared.who.Who.{Who}
use Rattle.history.specs.Marks.{oldest, newest, oldest_start, is_retained, kept_marks, AreMarks, MarksRise}
use Rattle.history.specs.Writes.{pages_of}
use Rattle.history.specs.History.{capturing, base_after, bases_after, State, run, History, now, captures, captured_by, with_change, with_changes}
use Rattle.history.specs.Journal.{change_of, changes_of, base_behind, pages_behind, pages_after_journal, after_journal}
use Rattle.history.specs.Sound.{Pin, same_item, pins_behind, KeepsRules, AllKeepRules, pins_of}
use Rattle.history.specs.Laws.{IsConsistent, KeepsNewest, AllKeepNewest, OneMoreLine, JournalPages, JournalCapturesGrow, FrontIsSound, PinnedAreRetained, HorizonRises}
use Rattle.history.proofs.MarkLaws.{retained-append}
use Rattle.history.proofs.Captures.{run-append, run-base, with_changes-step, with_changes-none, captures-grow}
use Rattle.history.proofs.Consistent.{step_consistent, stays_consistent, next_keeps, marks_after}
use Rattle.history.proofs.AsOf.{newest_rises, base_behind_all}

pub bases-append : (base : Base) (xs ys : List Change) → bases_after base (xs ++ ys) ≡ bases_after (bases_after base xs) ys
bases-append base [] ys = refl
bases-append base (x ∷ xs) ys = bases-append (base_after base x) xs ys

pub changes-append : (base : Base) (lines more : List Line) → changes_of base (lines ++ more) ≡ changes_of base lines ++ changes_of (bases_after base (changes_of base lines)) more
changes-append base [] more = refl
changes-append base (line ∷ lines) more =
    let first : List Change = option_to_list (change_of base line.what) in
    let next : Base = base_behind base line in
    ap (λ (t : List Change). first ++ t) (changes-append next lines more)
    ∙ sym (append_assoc first (changes_of next lines) (changes_of (bases_after next (changes_of next lines)) more))
    ∙ ap (λ (b : Base). (first ++ changes_of next lines) ++ changes_of b more) (sym (bases-append base first (changes_of next lines)))

pub one_more_line : OneMoreLine
one_more_line base lines line = changes-append base lines (line ∷ []) ∙ ap (λ (t : List Change). changes_of base lines ++ t) (append-nil (option_to_list (change_of (bases_after base (changes_of base lines)) line.what)))

-- ---- pages

line_pages : (state : State) (what : What) → (run state (option_to_list (change_of state.base what))).pages ≡ pages_behind state.pages what
line_pages state Began = refl
line_pages state (Done None []) = refl
line_pages state (Done None (w ∷ ws)) = refl
line_pages state (Done (Some label) writes) = refl
line_pages state (Overlapped session item) = refl
line_pages state RolledBack = refl
line_pages state (Looked snapshot) = refl
line_pages state LookedAll = refl
line_pages state Unlooked = refl
line_pages state (Dropped below) = go (ltb (oldest state.base.marks) below) where
  go : (b : Bool) → (run state (option_to_list (cond b (Some (Drop below)) None))).pages ≡ state.pages
  go true = refl
  go false = refl
line_pages state (Refused why) = refl
line_pages state (Fault device count call) = refl

run_pages : (lines : List Line) (state : State) (page : ℕ) → (run state (changes_of state.base lines)).pages page ≡ pages_after_journal state.pages lines page
run_pages [] state page = refl
run_pages (line ∷ lines) state page =
    let first : List Change = option_to_list (change_of state.base line.what) in
    let next : State = run state first in
    ap (λ (s : State). s.pages page) (run-append state first (changes_of (base_behind state.base line) lines))
    ∙ ap (λ (b : Base). (run next (changes_of b lines)).pages page) (sym (run-base state first))
    ∙ run_pages lines next page
    ∙ ap (λ (f : ℕ → List ℕ). pages_after_journal f lines page) (line_pages state line.what)

pub journal_pages : JournalPages
journal_pages history lines page = ap (λ (s : State). s.pages page) (run-append history.origin history.changes (changes_of (now history).base lines)) ∙ run_pages lines (now history) page

-- ---- sound journals

keeps_front : (base : Base) (pins : List Pin) (lines more : List Line) → AllKeepRules base pins (lines ++ more) → AllKeepRules base pins lines
keeps_front base pins [] more all = tt
keeps_front base pins (line ∷ lines) more all = (all.0, keeps_front (base_behind base line) (pins_behind base pins line.who line.what) lines more all.1)

pub front_is_sound : FrontIsSound
front_is_sound base lines more sound = record { short = omega (arith, sound.short, length-append lines more); right = sound.right; keeps = keeps_front base [] lines more sound.keeps }

newest-append : (base : Base) (xs ys : List Change) → AllKeepNewest base xs → AllKeepNewest (bases_after base xs) ys → AllKeepNewest base (xs ++ ys)
newest-append base [] ys p q = q
newest-append base (x ∷ xs) ys p q = (p.0, newest-append (base_after base x) xs ys p.1 q)

line_keeps : (base : Base) (pins : List Pin) (what : What) → KeepsRules base pins what → AllKeepNewest base (option_to_list (change_of base what))
line_keeps base pins Began k = tt
line_keeps base pins (Done None []) k = tt
line_keeps base pins (Done None (w ∷ ws)) k = (tt, tt)
line_keeps base pins (Done (Some label) writes) k = (tt, tt)
line_keeps base pins (Overlapped session item) k = tt
line_keeps base pins RolledBack k = tt
line_keeps base pins (Looked snapshot) k = tt
line_keeps base pins LookedAll k = tt
line_keeps base pins Unlooked k = tt
line_keeps base pins (Dropped below) k = go (ltb (oldest base.marks) below) where
  go : (b : Bool) → AllKeepNewest base (option_to_list (cond b (Some (Drop below)) None))
  go true = (k.1, tt)
  go false = tt
line_keeps base pins (Refused why) k = tt
line_keeps base pins (Fault device count call) k = tt

pub journal_keeps : (base : Base) (pins : List Pin) (lines : List Line) → AllKeepRules base pins lines → AllKeepNewest base (changes_of base lines)
journal_keeps base pins [] all = tt
journal_keeps base pins (line ∷ lines) all =
    newest-append base (option_to_list (change_of base line.what)) (changes_of (base_behind base line) lines) (line_keeps base pins line.what all.0) (journal_keeps (base_behind base line) (pins_behind base pins line.who line.what) lines all.1)

pub newest-split : (base : Base) (xs ys : List Change) → AllKeepNewest base (xs ++ ys) → AllKeepNewest base xs × AllKeepNewest (bases_after base xs) ys
newest-split base [] ys all = (tt, all)
newest-split base (x ∷ xs) ys all = let rest = newest-split (base_after base x) xs ys all.1 in ((all.0, rest.0), rest.1)

-- ---- captures

begins : (history : History) (more : List Change) → IsConsistent history → AllKeepNewest (now history).base more → (tail : List PageImage) × (captures (with_changes history more) ≡ captures history ++ tail)
begins history [] fine all = ([], ap captures (with_changes-none history) ∙ sym (append-nil (captures history)))
begins history (change ∷ more) fine all =
    let step : History = with_change history change in
    let rest = begins step more (step_consistent history change fine all.0) (next_keeps history change more all.1) in (
      captured_by (now history) change ++ rest.0,
      ap captures (with_changes-step history change more)
          ∙ rest.1
          ∙ ap (λ (t : List PageImage). t ++ rest.0) (captures-grow history fine.counted fine.known change)
          ∙ append_assoc (captures history) (captured_by (now history) change) rest.0,
    )

pub with_changes-append : (history : History) (xs ys : List Change) → with_changes history (xs ++ ys) ≡ with_changes (with_changes history xs) ys
with_changes-append history xs ys = ap (λ (t : List Change). let h : History = record { origin = history.origin; held = history.held; changes = t } in h) (sym (append_assoc history.changes xs ys))

pub journal_captures_grow : JournalCapturesGrow
journal_captures_grow history lines more fine sound =
    let base : Base = (now history).base in
    let first : List Change = changes_of base lines in
    let middle : Base = bases_after base first in
    let second : List Change = changes_of middle more in
    let keeps : AllKeepNewest base (first ++ second) = subst (AllKeepNewest base) (changes-append base lines more) (journal_keeps base [] (lines ++ more) sound.keeps) in
    let both = newest-split base first second keeps in
    let there : History = with_changes history first in
    let rest = begins there second (stays_consistent history first fine both.0) (subst (λ (b : Base). AllKeepNewest b second) (sym (base_behind_all history first)) both.1) in
    let whole : captures (after_journal history (lines ++ more)) ≡ captures there ++ rest.0 = ap captures (ap (with_changes history) (changes-append base lines more) ∙ with_changes-append history first second) ∙ rest.1 in
    ap (take (length (captures there))) whole ∙ take_at (captures there) rest.0 (length (captures there)) refl

-- ---- pins

abbrev PinsAreRetained : List Mark → List Pin → Type 0
PinsAreRetained marks pins = AllByRecursion (λ (pin : Pin). is_retained pin.snapshot marks ≡ true) pins

pins-filter : (marks : List Mark) (test : Pin → Bool) (pins : List Pin) → PinsAreRetained marks pins → PinsAreRetained marks (filter test pins)
pins-filter marks test [] all = tt
pins-filter marks test (pin ∷ pins) all = go (test pin) (pins-filter marks test pins all.1) where
  go : (b : Bool) → PinsAreRetained marks (filter test pins) → PinsAreRetained marks (cond b (pin ∷ filter test pins) (filter test pins))
  go true rest = (all.0, rest)
  go false rest = rest

pins-append : (marks : List Mark) (xs ys : List Pin) → PinsAreRetained marks xs → PinsAreRetained marks ys → PinsAreRetained marks (xs ++ ys)
pins-append marks [] ys p q = q
pins-append marks (x ∷ xs) ys p q = (p.0, pins-append marks xs ys p.1 q)

all_pins : (marks some : List Mark) (who : Who) → ((n : ℕ) → is_retained n some ≡ true → is_retained n marks ≡ true) → PinsAreRetained marks (map (λ (mark : Mark). record { who = who; snapshot = mark.number }) some)
all_pins marks [] who inside = tt
all_pins marks (mark ∷ some) who inside = (
  inside mark.number (or_left (eqb mark.number mark.number) (is_retained mark.number some) (eq-eqb mark.number mark.number refl)),
  all_pins marks some who (λ n e. inside n (or_right (eqb mark.number n) (is_retained n some) e)),
)

retained-stays : (number below : ℕ) (marks : List Mark) → below ≤ number → is_retained number marks ≡ true → is_retained number (kept_marks below marks) ≡ true
retained-stays number below [] le e = e
retained-stays number below (mark ∷ marks) le e = go (leb below mark.number) refl (retained-stays number below marks le) where
  go : (b : Bool) → leb below mark.number ≡ b → (is_retained number marks ≡ true → is_retained number (kept_marks below marks) ≡ true) → is_retained number (cond b (mark ∷ marks) (kept_marks below marks)) ≡ true
  go true is again = e
  go false is again = elim (or_cases (eqb mark.number number) (is_retained number marks) e) [
    | inl here ↦ absurd (omega (arith, leb-false below mark.number is, eqb-true mark.number number here, le))
    | inr later ↦ again later
  ]

pins_more : (marks more : List Mark) (pins : List Pin) → PinsAreRetained marks pins → PinsAreRetained (marks ++ more) pins
pins_more marks more [] all = tt
pins_more marks more (pin ∷ pins) all = (retained-append pin.snapshot marks more all.0, pins_more marks more pins all.1)

pins_stay : (marks : List Mark) (below : ℕ) (pins : List Pin) → AllByRecursion (λ (pin : Pin). below ≤ pin.snapshot) pins → PinsAreRetained marks pins → PinsAreRetained (kept_marks below marks) pins
pins_stay marks below [] above all = tt
pins_stay marks below (pin ∷ pins) above all = (retained-stays pin.snapshot below marks above.0 all.0, pins_stay marks below pins above.1 all.1)

line_pins : (base : Base) (pins : List Pin) (who : Who) (what : What) → KeepsRules base pins what → PinsAreRetained base.marks pins → PinsAreRetained (bases_after base (option_to_list (change_of base what))).marks (pins_behind base pins who what)
line_pins base pins who Began k all = all
line_pins base pins who (Done None []) k all = all
line_pins base pins who (Done None (w ∷ ws)) k all = all
line_pins base pins who (Done (Some label) writes) k all = pins_more base.marks (record { number = newest base.marks + 1; label = label; start = base.captures + length (pages_of (capturing base writes)) } ∷ []) pins all
line_pins base pins who (Overlapped session item) k all = all
line_pins base pins who RolledBack k all = all
line_pins base pins who (Looked snapshot) k all = (k, all)
line_pins base pins who LookedAll k all = pins-append base.marks (map (λ (mark : Mark). record { who = who; snapshot = mark.number }) base.marks) pins (all_pins base.marks base.marks who (λ n e. e)) all
line_pins base pins who Unlooked k all = pins-filter base.marks (λ (pin : Pin). not (same_item pin.who who)) pins all
line_pins base pins who (Dropped below) k all = go (ltb (oldest base.marks) below) where
  go : (b : Bool) → PinsAreRetained (bases_after base (option_to_list (cond b (Some (Drop below)) None))).marks pins
  go true = pins_stay base.marks below pins k.2 all
  go false = all
line_pins base pins who (Refused why) k all = pins-filter base.marks (λ (pin : Pin). not (same_item pin.who who)) pins all
line_pins base pins who (Fault device count call) k all = pins-filter base.marks (λ (pin : Pin). not (same_item pin.who who)) pins all

all_pins_retained : (base : Base) (pins : List Pin) (lines : List Line) → AllKeepRules base pins lines → PinsAreRetained base.marks pins → PinsAreRetained (bases_after base (changes_of base lines)).marks (pins_of base pins lines)
all_pins_retained base pins [] keeps all = all
all_pins_retained base pins (line ∷ lines) keeps all =
    let first : List Change = option_to_list (change_of base line.what) in
    let next : Base = base_behind base line in
    let later : List Pin = pins_behind base pins line.who line.what in
    subst (λ (b : Base). PinsAreRetained b.marks (pins_of next later lines)) (sym (bases-append base first (changes_of next lines)))
    (all_pins_retained next later lines keeps.1 (line_pins base pins line.who line.what keeps.0 all))

pub pinned_are_retained : PinnedAreRetained
pinned_are_retained base lines sound = all_pins_retained base [] lines sound.keeps tt

-- ---- the horizon

record Rises (before after : List Mark) : Type 0 where
  oldest_up : oldest before ≤ oldest after
  newest_up : newest before ≤ newest after
  start_up : oldest_start before ≤ oldest_start after

pub kept-oldest : (captures n s below : ℕ) (marks : List Mark) → MarksRise captures n s marks → below ≤ newest marks → (oldest marks ≤ oldest (kept_marks below marks)) × (oldest_start marks ≤ oldest_start (kept_marks below marks))
kept-oldest captures n s below [] h le = (omega arith, omega arith)
kept-oldest captures n s below (mark ∷ []) h le = go (leb below mark.number) refl where
  go : (b : Bool) → leb below mark.number ≡ b → (mark.number ≤ oldest (cond b (mark ∷ []) [])) × (mark.start ≤ oldest_start (cond b (mark ∷ []) []))
  go true is = (omega arith, omega arith)
  go false is = absurd (omega (arith, leb-false below mark.number is, le))
kept-oldest captures n s below (mark ∷ next ∷ marks) h le = go (leb below mark.number) (kept-oldest captures mark.number mark.start below (next ∷ marks) h.2 le) where
  go : (b : Bool) → (next.number ≤ oldest (kept_marks below (next ∷ marks))) × (next.start ≤ oldest_start (kept_marks below (next ∷ marks)))
      → (mark.number ≤ oldest (cond b (mark ∷ next ∷ marks) (kept_marks below (next ∷ marks)))) × (mark.start ≤ oldest_start (cond b (mark ∷ next ∷ marks) (kept_marks below (next ∷ marks))))
  go true again = (omega arith, omega arith)
  go false again = (omega (arith, again.0, h.2.0), omega (arith, again.1, h.2.1))

push-oldest : (marks : List Mark) (mark : Mark) → 1 ≤ mark.number → (oldest marks ≤ oldest (marks ++ mark ∷ [])) × (oldest_start marks ≤ oldest_start (marks ++ mark ∷ []))
push-oldest [] mark some = (some, omega arith)
push-oldest (first ∷ marks) mark some = (omega arith, omega arith)

rises_by : (base : Base) (change : Change) → AreMarks base.captures base.marks → KeepsNewest base change → Rises base.marks (base_after base change).marks
rises_by base (Commit None writes) marks keeps = record { oldest_up = omega arith; newest_up = omega arith; start_up = omega arith }
rises_by base (Commit (Some label) writes) marks keeps =
    let mark : Mark = record { number = newest base.marks + 1; label = label; start = base.captures + length (pages_of (capturing base writes)) } in
    let up = push-oldest base.marks mark (omega arith) in
    record { oldest_up = up.0; newest_up = newest_rises base (Commit (Some label) writes) tt; start_up = up.1 }
rises_by base (Drop below) marks keeps =
    let up = kept-oldest base.captures 0 0 below base.marks marks keeps in
    record { oldest_up = up.0; newest_up = newest_rises base (Drop below) keeps; start_up = up.1 }

pub base_marks : (base : Base) (change : Change) → KeepsNewest base change → AreMarks base.captures base.marks → AreMarks (base_after base change).captures (base_after base change).marks
base_marks base change keeps marks = marks_after (record { base = base; pages = λ p. [] }) change keeps marks

all_rise : (base : Base) (more : List Change) → AreMarks base.captures base.marks → AllKeepNewest base more → Rises base.marks (bases_after base more).marks
all_rise base [] marks all = record { oldest_up = omega arith; newest_up = omega arith; start_up = omega arith }
all_rise base (change ∷ more) marks all =
    let first = rises_by base change marks all.0 in
    let rest = all_rise (base_after base change) more (base_marks base change all.0 marks) all.1 in
    record { oldest_up = omega (arith, first.oldest_up, rest.oldest_up); newest_up = omega (arith, first.newest_up, rest.newest_up); start_up = omega (arith, first.start_up, rest.start_up) }

all_marks : (base : Base) (more : List Change) → AreMarks base.captures base.marks → AllKeepNewest base more → AreMarks (bases_after base more).captures (bases_after base more).marks
all_marks base [] marks all = marks
all_marks base (change ∷ more) marks all = all_marks (base_after base change) more (base_marks base change all.0 marks) all.1

pub horizon_rises : HorizonRises
horizon_rises base lines more sound =
    let first : List Change = changes_of base lines in
    let middle : Base = bases_after base first in
    let second : List Change = changes_of middle more in
    let keeps : AllKeepNewest base (first ++ second) = subst (AllKeepNewest base) (changes-append base lines more) (journal_keeps base [] (lines ++ more) sound.keeps) in
    let both = newest-split base first second keeps in
    let up = all_rise middle second (all_marks base first sound.right.marks both.0) both.1 in
    let last : bases_after base (changes_of base (lines ++ more)) ≡ bases_after middle second = ap (bases_after base) (changes-append base lines more) ∙ bases-append base first second in
    rw last (up.oldest_up, up.newest_up, up.start_up)
