-- What open looks pin is told by the lines that are shown.
use Rattle.std.proofs.Common.{◌≡◌, ◌+◌, ◌++◌, ℕ, Bool, true, false, cond, List, [], ◌∷◌, Option, Some, None, map, refl, ap, sym, ◌∙◌}
use Rattle.std.specs.Prelude.{nat_le, if◌then◌else◌}
use Rattle.std.proofs.lemmas.List.{map-append}
use Rattle.retro_base.specs.declared.who.Who.{Who}
use Rattle.history.specs.declared.journal.Line.{Line}
use Rattle.history.specs.declared.journal.What.{What}
use Rattle.history.specs.declared.journal.What.TheVariants.{Done, LookedAll, Dropped}
use Rattle.history.specs.Journal.{pages_behind}
use Rattle.history.specs.Sound.{Pin}
use Rattle.journal_law.specs.Language.{Kind, Language, kind_of}
use Rattle.journal_law.specs.Pages.{Pages, page_step, pins_from, pins_of}
use Rattle.journal_law.specs.World.{Mark, World, behind, kept, newest_behind, pins_behind}
use Rattle.transcript_laws.specs.Shown.{Shown, shown, shown_lines, shown_of}
use Rattle.transcript_laws.proofs.Redrawn.{told, told_by, told_line, told_lines}

abbrev numbers : {X : Type 0} → List (Mark X) → List ℕ
numbers marks = map (λ mark. mark.number) marks

abbrev last_number : ℕ → List ℕ → ℕ
last_number n [] = n
last_number n (number ∷ more) = last_number number more

newest_number : {X : Type 0} (n : ℕ) (marks : List (Mark X)) → newest_behind n marks ≡ last_number n (numbers marks)
newest_number n [] = refl
newest_number n (mark ∷ marks) = newest_number mark.number marks

abbrev kept_numbers : ℕ → List ℕ → List ℕ
kept_numbers below [] = []
kept_numbers below (number ∷ more) = if nat_le below number then number ∷ more else kept_numbers below more

kept_number : {X : Type 0} (below : ℕ) (marks : List (Mark X)) → numbers (kept below marks)
    ≡ kept_numbers below (numbers marks)
kept_number below [] = refl
kept_number {X} below (mark ∷ marks) = by_test (nat_le below mark.number) (kept_number below marks)
  where
    by_test : (stays : Bool) → numbers (kept below marks) ≡ kept_numbers below (numbers marks)
        → numbers (cond stays (mark ∷ marks) (kept below marks))
        ≡ cond stays (mark.number ∷ numbers marks) (kept_numbers below (numbers marks))
    by_test true rest = refl
    by_test false rest = rest

-- the numbers of the snapshots behind a line
abbrev numbers_behind : What → List ℕ → List ℕ
numbers_behind (Done (Some label) writes) ns = ns ++ (last_number 0 ns + 1) ∷ []
numbers_behind (Dropped below) ns = kept_numbers below ns
numbers_behind what ns = ns

behind_numbers : {X : Type 0} (after : X) (what : What) (w : World X) → numbers (behind after what w).marks
    ≡ numbers_behind what (numbers w.marks)
behind_numbers {X} after (Done (Some label) writes) w =
    map-append (λ (mark : Mark X). mark.number) w.marks
    (record { number = newest_behind 0 w.marks + 1; label = label; held = after } ∷ [])
    ∙ ap (λ (n : ℕ). numbers w.marks ++ (n + 1) ∷ []) (newest_number 0 w.marks)
behind_numbers after (Done None writes) w = refl
behind_numbers after (Dropped below) w = kept_number below w.marks
behind_numbers after what w = refl

numbers_told : (kind : Option Kind) (what : What) (ns : List ℕ) → numbers_behind what ns
    ≡ numbers_behind (told_by kind (shown what)) ns
numbers_told kind (Done (Some label) writes) ns = refl
numbers_told kind (Done None writes) ns = refl
numbers_told kind what ns = refl

-- the pins of all these snapshots
abbrev all_pinned : Who → List ℕ → List Pin
all_pinned who ns = map (λ n. record { who = who; snapshot = n }) ns

pinned_numbers : {X : Type 0} (who : Who) (marks : List (Mark X))
    → map (λ (mark : Mark X). record { who = who; snapshot = mark.number }) marks ≡ all_pinned who (numbers marks)
pinned_numbers who [] = refl
pinned_numbers who (mark ∷ marks) = ap (λ (more : List Pin). record { who = who; snapshot = mark.number } ∷ more)
    (pinned_numbers who marks)

pins_alike : {X : Type 0} (w v : World X) (pins : List Pin) (who : Who) (what : What) → numbers w.marks
    ≡ numbers v.marks
    → pins_behind w pins who what ≡ pins_behind v pins who what
pins_alike w v pins who LookedAll same =
    ap (λ (more : List Pin). more ++ pins)
    (pinned_numbers who w.marks ∙ ap (all_pinned who) same ∙ sym (pinned_numbers who v.marks))
pins_alike w v pins who what same = refl

pins_told : {X : Type 0} (kind : Option Kind) (w : World X) (pins : List Pin) (who : Who) (what : What)
    → pins_behind w pins who what ≡ pins_behind w pins who (told_by kind (shown what))
pins_told kind w pins who (Done (Some label) writes) = refl
pins_told kind w pins who (Done None writes) = refl
pins_told kind w pins who what = refl

module _ (L : Language) (items : Who → Option L.Item) where
  pinned_told : (w v : World Pages) (pins : List Pin) (lines : List Line) → numbers w.marks ≡ numbers v.marks
      → pins_from w pins lines ≡ pins_from v pins (told_lines L items (shown_lines lines))
  pinned_told w v pins [] same = refl
  pinned_told w v pins (l ∷ lines) same =
      by_shown (shown l.what) refl (λ x y more is. pinned_told x y more lines is)
    where
      k : Option Kind
      k = kind_of L (items l.who)

      step_numbers : (s : Option Shown) → shown l.what ≡ s → numbers (page_step w l).marks
          ≡ numbers_behind (told_by k s) (numbers v.marks)
      step_numbers s e =
          behind_numbers (pages_behind w.current l.what) l.what w
          ∙ ap (numbers_behind l.what) same
          ∙ numbers_told k l.what (numbers v.marks)
          ∙ ap (λ (o : Option Shown). numbers_behind (told_by k o) (numbers v.marks)) e

      step_pins : (s : Option Shown) → shown l.what ≡ s → pins_behind w pins l.who l.what
          ≡ pins_behind v pins l.who (told_by k s)
      step_pins s e =
          pins_alike w v pins l.who l.what same
          ∙ pins_told k v pins l.who l.what
          ∙ ap (λ (o : Option Shown). pins_behind v pins l.who (told_by k o)) e

      by_shown : (s : Option Shown) → shown l.what ≡ s
          → ((x y : World Pages) (more : List Pin) → numbers x.marks ≡ numbers y.marks → pins_from x more lines
          ≡ pins_from y more (told_lines L items (shown_lines lines)))
          → pins_from (page_step w l) (pins_behind w pins l.who l.what) lines
          ≡ pins_from v pins (told_lines L items (shown_of l.who s ++ shown_lines lines))
      by_shown None e rest =
          ap (λ (more : List Pin). pins_from (page_step w l) more lines) (step_pins None e)
          ∙ rest (page_step w l) v pins (step_numbers None e)
      by_shown (Some said) e rest =
          let t : Line = told_line L items (l.who, said) in
          ap (λ (more : List Pin). pins_from (page_step w l) more lines) (step_pins (Some said) e)
          ∙ rest (page_step w l) (page_step v t) (pins_behind v pins l.who (told k said))
          (step_numbers (Some said) e ∙ sym (behind_numbers (pages_behind v.current t.what) t.what v))

  -- lines that are shown alike leave the same pins
  pub pinned_alike : (w : World Pages) (one other : List Line) → shown_lines one ≡ shown_lines other → pins_of w one
      ≡ pins_of w other
  pinned_alike w one other same =
      pinned_told w w [] one refl
      ∙ ap (λ (ss : List (Who × Shown)). pins_of w (told_lines L items ss)) same
      ∙ sym (pinned_told w w [] other refl)
