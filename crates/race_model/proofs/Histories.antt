-- Histories, as changes go on.
use Rattle.std.proofs.Common.{◌≡◌, ◌≤◌, ◌<◌, ◌+◌, ◌-◌, ◌∙◌, ◌&&◌, ℕ, true, false, List, [], ◌∷◌, ◌++◌, length, drop, get_or, Some, None, refl, sym, ap, subst, arith, length-append, length-drop, append_assoc}
use Rattle.std.specs.List.{AllByRecursion}
use Rattle.std.proofs.lemmas.Bool.{ne_eqb, and_parts}
use Rattle.std.proofs.lemmas.List.{drop-append-le, get_or_append_left, nil_from_length}
use Rattle.history.specs.declared.entry.Base.{Base}
use Rattle.history.specs.declared.entry.Mark.{Mark}
use Rattle.history.specs.declared.entry.Change.{Change}
use Rattle.history.specs.declared.entry.Change.TheVariants.{Commit, Drop}
use Rattle.history.specs.declared.writes.PageImage.{PageImage}
use Rattle.history.specs.Marks.{newest, newest_start, oldest_start, MarksRise, AreMarks}
use Rattle.history.specs.Writes.{pages_of, is_among}
use Rattle.history.specs.History.{is_declared, capturing, State, base_after, after, run, captured_by, captures_of, History, now, captures, with_change}
use Rattle.history.specs.Laws.{IsConsistent, KeepsNewest, captured_since}
use Rattle.history.specs.Right.{IsBase, IsRight, MayFollow}
use Rattle.history.proofs.MarkLaws.{newest_start-within}
use Rattle.history.proofs.Captures.{now-with, captured-length, captures-count, captures-grow}
use Rattle.history.proofs.Consistent.{step_consistent}
use Rattle.history.proofs.BaseStays.{stays_right}
use Rattle.history.proofs.Journals.{kept-oldest}
use Rattle.replay.specs.Joined.{differ, are_among}
use Rattle.replay.specs.Opened.{forgotten}
use Rattle.race_model.specs.Desk.{captured, capacity_of}
use Rattle.race_model.specs.Fits.{HistoryFits}
use Rattle.race_model.proofs.Lists.{are_among-each, rises_differ, all_different, pages_of-length}

pub captures_of-append : (state : State) (changes more : List Change) → captures_of state (changes ++ more) ≡ captures_of state changes ++ captures_of (run state changes) more
captures_of-append state [] more = refl
captures_of-append state (change ∷ changes) more =
    ap (λ (t : List PageImage). captured_by state change ++ t) (captures_of-append (after state change) changes more)
    ∙ sym (append_assoc (captured_by state change) (captures_of (after state change) changes) (captures_of (run (after state change) changes) more))

pub run_count : (state : State) (changes : List Change) → (run state changes).base.captures ≡ state.base.captures + length (captures_of state changes)
run_count state [] = omega arith
run_count state (change ∷ changes) = omega (arith, run_count (after state change) changes, captured-length state change, length-append (captured_by state change) (captures_of (after state change) changes))

pub page_count_after : (base : Base) (change : Change) → (base_after base change).page_count ≡ base.page_count
page_count_after base (Commit label writes) = refl
page_count_after base (Drop below) = refl

capacity_after : (base : Base) (change : Change) → (base_after base change).capacity ≡ base.capacity
capacity_after base (Commit label writes) = refl
capacity_after base (Drop below) = refl

pub capacity_stays : (state : State) (changes : List Change) → (run state changes).base.capacity ≡ state.base.capacity
capacity_stays state [] = refl
capacity_stays state (change ∷ changes) = capacity_stays (after state change) changes ∙ capacity_after state.base change

pub keeps_newest : (base : Base) (change : Change) → IsRight base change → KeepsNewest base change
keeps_newest base (Commit label writes) right = tt
keeps_newest base (Drop below) right = right.1

-- the oldest start is not above the newest, nor above the captures
pub oldest-newest : (count n s : ℕ) (marks : List Mark) → MarksRise count n s marks → oldest_start marks ≤ newest_start marks
oldest-newest count n s [] rise = omega arith
oldest-newest count n s (mark ∷ []) rise = omega arith
oldest-newest count n s (mark ∷ next ∷ marks) rise = omega (arith, oldest-newest count mark.number mark.start (next ∷ marks) rise.2, rise.2.1)

oldest_rises : (base : Base) (change : Change) → AreMarks base.captures base.marks → KeepsNewest base change → oldest_start base.marks ≤ oldest_start (base_after base change).marks
oldest_rises base (Commit None writes) marks keeps = omega arith
oldest_rises base (Commit (Some label) writes) marks keeps = go base.marks where
  mark : Mark
  mark = record { number = newest base.marks + 1; label = label; start = base.captures + length (pages_of (capturing base writes)) }

  go : (marks : List Mark) → oldest_start marks ≤ oldest_start (marks ++ mark ∷ [])
  go [] = omega arith
  go (first ∷ marks) = omega arith
oldest_rises base (Drop below) marks keeps = (kept-oldest base.captures 0 0 below base.marks marks keeps).1

module _ (history : History) (fine : IsConsistent history) where
  pub count : length (captures history) ≡ (now history).base.captures
  count = captures-count history fine.counted fine.known

  pub oldest_within : oldest_start (now history).base.marks ≤ (now history).base.captures
  oldest_within = omega (arith, oldest-newest (now history).base.captures 0 0 (now history).base.marks fine.marks, newest_start-within (now history).base.captures 0 0 (now history).base.marks fine.marks)

  pub pages_count : length (pages_of (captures history)) ≡ (now history).base.captures
  pages_count = pages_of-length (captures history) ∙ count

  -- a change more
  module _ (change : Change) (keeps : KeepsNewest (now history).base change) where
    pub grown : captures (with_change history change) ≡ captures history ++ captured_by (now history) change
    grown = captures-grow history fine.counted fine.known change

    pub count_with : (now (with_change history change)).base.captures ≡ (now history).base.captures + length (captured_by (now history) change)
    count_with = ap (λ (s : State). s.base.captures) (now-with history change) ∙ captured-length (now history) change

    pub start_with : oldest_start (now history).base.marks ≤ oldest_start (now (with_change history change)).base.marks
    start_with = subst (λ (s : State). oldest_start (now history).base.marks ≤ oldest_start s.base.marks) (sym (now-with history change)) (oldest_rises (now history).base change fine.marks keeps)

    -- captures that were there stay
    pub captured_with : (number : ℕ) → number < (now history).base.captures → captured (with_change history change) number ≡ captured history number
    captured_with number lt =
        ap (λ (images : List PageImage). get_or images number forgotten) grown ∙ get_or_append_left (captures history) (captured_by (now history) change) forgotten number (omega (arith, count, lt))

    pub drop_with : (n : ℕ) → n ≤ (now history).base.captures → drop n (captures (with_change history change)) ≡ drop n (captures history) ++ captured_by (now history) change
    drop_with n le = ap (drop n) grown ∙ drop-append-le n (captures history) (captured_by (now history) change) (omega (arith, count, le))

module _ (history : History) (floor : ℕ) (fits : HistoryFits history floor) where
  pub floor_within : floor ≤ length (captures history)
  floor_within = omega (arith, count history fits.consistent, oldest_within history fits.consistent, fits.floor_low)

  pub room : (now history).base.captures ≤ oldest_start (now history).base.marks + capacity_of history
  room = omega (arith, fits.right.limits.room, capacity_stays history.origin history.changes)

  pub fits_with : (change : Change) → MayFollow (now history).base change → HistoryFits (with_change history change) floor
  fits_with change may =
      let keeps : KeepsNewest (now history).base change = keeps_newest (now history).base change may.right in
      record {
        consistent = step_consistent history change fits.consistent keeps;
        right = subst (λ (s : State). IsBase s.base) (sym (now-with history change)) (stays_right (now history).base change fits.right may.rises may.right);
        floor_low = omega (arith, fits.floor_low, start_with history fits.consistent change keeps);
      }

  -- the pages captured since the newest snapshot are different, and those that the log tells
  since_length : length (captured_since history) ≡ (now history).base.captures - newest_start (now history).base.marks
  since_length = pages_of-length (drop (newest_start (now history).base.marks) (captures history)) ∙ length-drop (newest_start (now history).base.marks) (captures history) ∙ ap (λ n. n - newest_start (now history).base.marks) (count history fits.consistent)

  none_since : (now history).base.marks ≡ [] → captured_since history ≡ []
  none_since undeclared = nil_from_length (captured_since history) (omega (arith, since_length, fits.right.undeclared undeclared))

  fresh : is_among (now history).base.page_count (now history).base.captured ≡ false
  fresh = go (now history).base.captured fits.right.in_store where
    go : (pages : List ℕ) → AllByRecursion (λ page. page < (now history).base.page_count) pages → is_among (now history).base.page_count pages ≡ false
    go [] all = refl
    go (page ∷ pages) all = rw (ne_eqb page (now history).base.page_count (λ is. absurd (omega (arith, is, all.0)))) (go pages all.1)

  pub since_differ : differ (captured_since history) ≡ true
  since_differ =
      all_different [] (captured_since history) (now history).base.captured (now history).base.page_count (rises_differ 0 (now history).base.captured fits.right.rising)
      (λ p is. (and_parts (is_declared (now history).base.marks) (is_among p (captured_since history)) (sym (fits.consistent.captured p) ∙ is)).1) (omega (arith, since_length, fits.right.captured)) fresh

  pub since_listed : are_among (captured_since history) (now history).base.captured ≡ true
  since_listed = go (now history).base.marks refl where
    go : (marks : List Mark) → (now history).base.marks ≡ marks → are_among (captured_since history) (now history).base.captured ≡ true
    go [] undeclared = ap (λ (ps : List ℕ). are_among ps (now history).base.captured) (none_since undeclared)
    go (mark ∷ marks) some = are_among-each (captured_since history) (now history).base.captured
        (λ p is. fits.consistent.captured p ∙ ap (λ (ms : List Mark). is_declared ms && is_among p (captured_since history)) some ∙ is)
