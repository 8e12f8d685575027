-- The snapshots that a list of numbers may ask for are those at which the open look looks.
use Rattle.std.proofs.Common.{◌≡◌, ◌&&◌, ◌||◌, ◌==◌, ℕ, Bool, true, false, cond, List, [], ◌∷◌, Some, None, Ok, Err, IsTrue, inr, refl, ap, sym, subst, arith}
use Rattle.std.specs.Prelude.{map, nat_le, nat_lt, not, slice_get}
use Rattle.std.specs.List.{AllByRecursion}
use Rattle.std.proofs.lemmas.Bool.Decides.{nat_tests}
use Rattle.retro_base.specs.declared.refusal.Refusal.TheVariants.{NoSuchSnapshot}
use Rattle.history.specs.Marks.{newest as newest_mark}
use Rattle.history.specs.declared.entry.Mark.{Mark as MarkOf}
use Rattle.journal_law.specs.Pages.{Pages as Bytes}
use Rattle.journal_law.specs.Seats.{Look, Looking, Name, Pins, View, at_look, is_looking, names_in, names_of}
use Rattle.journal_law.specs.World.{Mark, World, as_of, held_by, mark_of, newest, newest_behind, oldest_of}
use Rattle.seat_pager.specs.Past.{pins}
use Rattle.seat_pager.proofs.Looks.{pins_test}
use Rattle.session.specs.Calls.{LooksAtMarks, has_number, is_retained}

abbrev names_by : List (Mark Bytes) → List Name
names_by marks = map (λ (mark : Mark Bytes). record { number = mark.number; label = mark.label }) marks

head_same : (a b : Name) (xs ys : List Name) → a ∷ xs ≡ b ∷ ys → a ≡ b
head_same a b xs ys e = cc

tail_same : (a b : Name) (xs ys : List Name) → a ∷ xs ≡ b ∷ ys → xs ≡ ys
tail_same a b xs ys e = cc

nothing_there : (a : Name) (xs : List Name) → a ∷ xs ≡ [] → ⊥
nothing_there a xs e = cc

numbers_same : (m : MarkOf) (ms : List MarkOf) (p : Mark Bytes) (ps : List (Mark Bytes)) → names_of (m ∷ ms) ≡ names_by (p ∷ ps) → m.number ≡ p.number
numbers_same m ms p ps e = ap (λ (name : Name). name.number) (head_same (record { number = m.number; label = m.label }) (record { number = p.number; label = p.label }) (names_of ms) (names_by ps) e)

rest_same : (m : MarkOf) (ms : List MarkOf) (p : Mark Bytes) (ps : List (Mark Bytes)) → names_of (m ∷ ms) ≡ names_by (p ∷ ps) → names_of ms ≡ names_by ps
rest_same m ms p ps e = tail_same (record { number = m.number; label = m.label }) (record { number = p.number; label = p.label }) (names_of ms) (names_by ps) e

-- the newest is the same
newest_same : (ms : List MarkOf) (ps : List (Mark Bytes)) → names_of ms ≡ names_by ps → newest_behind 0 ps ≡ newest_mark ms
newest_same [] [] e = refl
newest_same [] (p ∷ ps) e = absurd (nothing_there (record { number = p.number; label = p.label }) (names_by ps) (sym e))
newest_same (m ∷ ms) [] e = absurd (nothing_there (record { number = m.number; label = m.label }) (names_of ms) e)
newest_same (m ∷ []) (p ∷ []) e = sym (numbers_same m [] p [] e)
newest_same (m ∷ []) (p ∷ q ∷ ps) e = absurd (nothing_there (record { number = q.number; label = q.label }) (names_by ps) (sym (rest_same m [] p (q ∷ ps) e)))
newest_same (m ∷ n ∷ ms) (p ∷ []) e = absurd (nothing_there (record { number = n.number; label = n.label }) (names_of ms) (rest_same m (n ∷ ms) p [] e))
newest_same (m ∷ n ∷ ms) (p ∷ q ∷ ps) e = newest_same (n ∷ ms) (q ∷ ps) (rest_same m (n ∷ ms) p (q ∷ ps) e)

-- a number that one has is found
found : (number : ℕ) (ms : List MarkOf) (ps : List (Mark Bytes)) → names_of ms ≡ names_by ps → has_number number ms ≡ true → (mark : Mark Bytes) × (mark_of number ps ≡ Some mark)
found number [] ps e is = cc
found number (m ∷ ms) [] e is = absurd (nothing_there (record { number = m.number; label = m.label }) (names_of ms) e)
found number (m ∷ ms) (p ∷ ps) e is =
    by_test (p.number == number) (subst (λ (n : ℕ). ((n == number) || has_number number ms) ≡ true) (numbers_same m ms p ps e) is) (found number ms ps (rest_same m ms p ps e))
  where
    by_test : (same : Bool) → (same || has_number number ms) ≡ true → (has_number number ms ≡ true → (mark : Mark Bytes) × (mark_of number ps ≡ Some mark))
        → (mark : Mark Bytes) × (cond same (Some p) (mark_of number ps) ≡ Some mark)
    by_test true is later = (p, refl)
    by_test false is later = later is

both : (a b : Bool) → (a && b) ≡ true → (a ≡ true) × (b ≡ true)
both true b e = (refl, e)
both false b e = cc

-- the snapshot of such a number is held
pub retained_held : (number : ℕ) (marks : List MarkOf) (pages : World Bytes) → names_of marks ≡ names_in pages → is_retained number marks ≡ true → (held : Bytes) × (as_of number pages ≡ Ok held)
retained_held number marks pages names is =
    let parts = both (not (number == 0) && nat_le number (newest_mark marks)) (has_number number marks) is in
    let bounds = both (not (number == 0)) (nat_le number (newest_mark marks)) parts.0 in
    let mark = found number marks pages.marks names parts.1 in
    let within : ((number == 0) || nat_lt (newest pages) number) ≡ false = let same : newest pages ≡ newest_mark marks = newest_same marks pages.marks names in
    inside number (newest pages) bounds.0 (subst (λ (n : ℕ). nat_le number n ≡ true) (sym same) bounds.1) in
    (mark.0.held, as_of_is ((number == 0) || nat_lt (newest pages) number) mark.0 within mark.1)
  where
    inside : (n newest : ℕ) → not (n == 0) ≡ true → nat_le n newest ≡ true → ((n == 0) || nat_lt newest n) ≡ false
    inside n newest above below = grind (arith, nat_tests)

    as_of_is : (outside : Bool) (mark : Mark Bytes) → outside ≡ false → mark_of number pages.marks ≡ Some mark
        → cond outside (Err (NoSuchSnapshot number (newest pages))) (held_by number (oldest_of pages.marks) (mark_of number pages.marks)) ≡ Ok mark.held
    as_of_is true mark no_way is = cc
    as_of_is false mark here is = ap (held_by number (oldest_of pages.marks)) is

-- and pinned
pub retained_pins : (view : View) (marks : List MarkOf) (number : ℕ) → is_looking view.work ≡ true → LooksAtMarks view marks → is_retained number marks ≡ true → IsTrue (pins view number)
retained_pins view marks number is all retained = pins_test view number pinned is
  where
    pinned : (look : Look) → view.work ≡ Looking look → Pins view look number
    pinned look at = (inr (all look at).0, retained_held number marks (at_look view look) (all look at).1 retained)

pub all_pinned : (view : View) (marks : List MarkOf) (numbers : List ℕ) → is_looking view.work ≡ true → LooksAtMarks view marks
    → AllByRecursion (λ (number : ℕ). is_retained number marks ≡ true) numbers → AllByRecursion (λ (number : ℕ). IsTrue (pins view number)) numbers
all_pinned view marks [] is all retained = tt
all_pinned view marks (number ∷ numbers) is all retained = (retained_pins view marks number is all retained.0, all_pinned view marks numbers is all retained.1)

pub first_pinned : (view : View) (numbers : List ℕ) (first : ℕ) → AllByRecursion (λ (number : ℕ). IsTrue (pins view number)) numbers → slice_get numbers 0 ≡ Some first → IsTrue (pins view first)
first_pinned view [] first all is = cc
first_pinned view (number ∷ numbers) first all is = subst (λ (n : ℕ). IsTrue (pins view n)) (some_same number first is) all.0
  where
    some_same : (a b : ℕ) → Some a ≡ Some b → a ≡ b
    some_same a b e = cc

-- no first one, none at all
pub empty_of : (numbers : List ℕ) → None ≡ slice_get numbers 0 → numbers ≡ []
empty_of [] e = refl
empty_of (number ∷ numbers) e = absurd (clash e)
  where
    clash : None ≡ Some number → ⊥
    clash e = cc
