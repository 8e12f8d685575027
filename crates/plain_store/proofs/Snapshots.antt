-- The snapshots of a plain store: their numbers, and the pages that they hold.
use Rattle.std.proofs.Common.{◌≡◌, ◌≢◌, ◌∙◌, ◌⊎◌, ◌+◌, ◌<◌, ◌≤◌, ◌==◌, ◌||◌, ℕ, zero, suc, Bool, true, false, cond, ltb, List, [], ◌∷◌, length, refl, sym, ap, subst, inl, inr, arith}
use Rattle.std.specs.Prelude.{Option, Some, None, Result, Ok, Err}
use Rattle.std.specs.List.{AllByRecursion}
use Rattle.std.specs.Option.{option_or}
use Rattle.std.proofs.lemmas.Bool.{ltb-true, ltb-false}
use Rattle.std.proofs.lemmas.Bool.Decides.{eqb_tells}
use Rattle.retro_base.specs.declared.refusal.Refusal.{Refusal}
use Rattle.retro_base.specs.declared.refusal.Refusal.TheVariants as refusal
use Rattle.history.specs.declared.entry.Mark.{Mark as MarkOf}
use Rattle.history.specs.Marks as base
use Rattle.journal_law.specs.Pages.{Pages}
use Rattle.journal_law.specs.Seats.{Name, names_in, names_of}
use Rattle.journal_law.specs.World.{Mark, World, as_of, held_by, mark_of, newest, newest_behind, oldest_of}
use Rattle.plain_store.specs.Numbers.{look_refused}
use Rattle.plain_store.specs.Plain.{AreNumbered}

-- ---- the same names

abbrev names : List (Mark Pages) → List Name
names marks = names_in (record { current = λ page. []; marks = marks })

same_behind : (number : ℕ) (marks : List (Mark Pages)) (others : List MarkOf) → names marks ≡ names_of others → 0 < length others → newest_behind number marks ≡ base.newest others
same_behind number [] [] e lt = absurd (omega arith)
same_behind number [] (o ∷ others) e lt = cc
same_behind number (m ∷ marks) [] e lt = cc
same_behind number (m ∷ []) (o ∷ []) e lt = let one : (record { number = m.number; label = m.label }) ≡ record { number = o.number; label = o.label } = cc in ap (λ (n : Name). n.number) one
same_behind number (m ∷ []) (o ∷ next ∷ others) e lt = cc
same_behind number (m ∷ next ∷ marks) (o ∷ []) e lt = cc
same_behind number (m ∷ first ∷ marks) (o ∷ next ∷ others) e lt = let rest : names (first ∷ marks) ≡ names_of (next ∷ others) = cc in same_behind m.number (first ∷ marks) (next ∷ others) rest (omega arith)

pub same_newest : (world : World Pages) (others : List MarkOf) → names_in world ≡ names_of others → newest world ≡ base.newest others
same_newest world others e = by_marks world.marks others e
  where
    by_marks : (marks : List (Mark Pages)) (others : List MarkOf) → names marks ≡ names_of others → newest_behind 0 marks ≡ base.newest others
    by_marks [] [] e = refl
    by_marks [] (o ∷ others) e = cc
    by_marks (m ∷ marks) [] e = cc
    by_marks (m ∷ marks) (o ∷ others) e = same_behind 0 (m ∷ marks) (o ∷ others) e (omega arith)

pub same_oldest : (world : World Pages) (others : List MarkOf) → names_in world ≡ names_of others → oldest_of world.marks ≡ base.oldest others
same_oldest world others e = by_marks world.marks others e
  where
    by_marks : (marks : List (Mark Pages)) (others : List MarkOf) → names marks ≡ names_of others → oldest_of marks ≡ base.oldest others
    by_marks [] [] e = refl
    by_marks [] (o ∷ others) e = cc
    by_marks (m ∷ marks) [] e = cc
    by_marks (m ∷ marks) (o ∷ others) e = let one : (record { number = m.number; label = m.label }) ≡ record { number = o.number; label = o.label } = cc in ap (λ (n : Name). n.number) one

-- ---- which numbers there are

none_below : (number snapshot : ℕ) (marks : List (Mark Pages)) → AreNumbered number marks → snapshot < number → mark_of snapshot marks ≡ None
none_below number snapshot [] are lt = refl
none_below number snapshot (mark ∷ marks) are lt = by_test (eqb_tells mark.number snapshot) (none_below (number + 1) snapshot marks are.1 (omega (arith, lt)))
  where
    by_test : (((mark.number == snapshot) ≡ true) × (mark.number ≡ snapshot)) ⊎ (((mark.number == snapshot) ≡ false) × (mark.number ≢ snapshot)) → mark_of snapshot marks ≡ None → cond (mark.number == snapshot) (Some mark) (mark_of snapshot marks) ≡ None
    by_test (inl is) rest = absurd (omega (arith, is.1, are.0, lt))
    by_test (inr is) rest = rw is.0 rest

some_within : (number snapshot top : ℕ) (marks : List (Mark Pages)) → AreNumbered number marks → number ≤ snapshot → snapshot ≤ newest_behind top marks → top < number → (mark : Mark Pages) × (mark_of snapshot marks ≡ Some mark)
some_within number snapshot top [] are low high lt = absurd (omega (arith, low, high, lt))
some_within number snapshot top (mark ∷ marks) are low high lt = by_test (eqb_tells mark.number snapshot) (some_within (number + 1) snapshot mark.number marks are.1)
  where
    by_test : (((mark.number == snapshot) ≡ true) × (mark.number ≡ snapshot)) ⊎ (((mark.number == snapshot) ≡ false) × (mark.number ≢ snapshot))
        → (number + 1 ≤ snapshot → snapshot ≤ newest_behind mark.number marks → mark.number < number + 1 → (m : Mark Pages) × (mark_of snapshot marks ≡ Some m))
        → (m : Mark Pages) × (cond (mark.number == snapshot) (Some mark) (mark_of snapshot marks) ≡ Some m)
    by_test (inl is) rest = rw is.0 (mark, refl)
    by_test (inr is) rest = rw is.0 (rest (omega (arith, is.1, are.0, low)) high (omega (arith, are.0)))

some_there : (snapshot : ℕ) (marks : List (Mark Pages)) → AreNumbered (oldest_of marks) marks → oldest_of marks ≤ snapshot → snapshot ≤ newest_behind 0 marks → 1 ≤ snapshot → (mark : Mark Pages) × (mark_of snapshot marks ≡ Some mark)
some_there snapshot [] are low high one = absurd (omega (arith, high, one))
some_there snapshot (mark ∷ marks) are low high one = by_test (eqb_tells mark.number snapshot)
  where
    by_test : (((mark.number == snapshot) ≡ true) × (mark.number ≡ snapshot)) ⊎ (((mark.number == snapshot) ≡ false) × (mark.number ≢ snapshot)) → (m : Mark Pages) × (cond (mark.number == snapshot) (Some mark) (mark_of snapshot marks) ≡ Some m)
    by_test (inl is) = rw is.0 (mark, refl)
    by_test (inr is) = rw is.0 (some_within (mark.number + 1) snapshot mark.number marks are.1 (omega (arith, is.1, low)) high (omega arith))

-- ---- looks

module _ (world : World Pages) (marks : List MarkOf) (names_are : names_in world ≡ names_of marks) (numbered : AreNumbered (oldest_of world.marks) world.marks) (snapshot : ℕ) where
  as_of_is : as_of snapshot world ≡ cond ((snapshot == 0) || ltb (base.newest marks) snapshot) (Err (refusal.NoSuchSnapshot snapshot (base.newest marks))) (held_by snapshot (base.oldest marks) (mark_of snapshot world.marks))
  as_of_is =
      ap (λ (n : ℕ). cond ((snapshot == 0) || ltb n snapshot) (Err (refusal.NoSuchSnapshot snapshot n)) (held_by snapshot (oldest_of world.marks) (mark_of snapshot world.marks))) (same_newest world marks names_are)
      ∙ ap (λ (o : ℕ). cond ((snapshot == 0) || ltb (base.newest marks) snapshot) (Err (refusal.NoSuchSnapshot snapshot (base.newest marks))) (held_by snapshot o (mark_of snapshot world.marks))) (same_oldest world marks names_are)

  -- it is refused as it must be
  pub look_is_refused : (why : Refusal) → look_refused snapshot marks ≡ Some why → as_of snapshot world ≡ Err why
  look_is_refused why is = as_of_is ∙ by_test ((snapshot == 0) || ltb (base.newest marks) snapshot) (ltb snapshot (base.oldest marks)) refl is
    where
      some_same : (a : Refusal) → Some a ≡ Some why → a ≡ why
      some_same a e = cc

      by_test : (none below : Bool) → ltb snapshot (base.oldest marks) ≡ below
          → option_or (cond none (Some (refusal.NoSuchSnapshot snapshot (base.newest marks))) None) (cond below (Some (refusal.Dropped snapshot (base.oldest marks))) None) ≡ Some why
          → cond none (Err (refusal.NoSuchSnapshot snapshot (base.newest marks))) (held_by snapshot (base.oldest marks) (mark_of snapshot world.marks)) ≡ Err why
      by_test true below e h = ap Err (some_same _ h)
      by_test false true e h =
          ap (held_by snapshot (base.oldest marks)) (none_below (oldest_of world.marks) snapshot world.marks numbered (omega (arith, same_oldest world marks names_are, ltb-true _ _ e)))
          ∙ ap Err (some_same _ h)
      by_test false false e h = cc

  -- or there is one
  pub look_is_held : look_refused snapshot marks ≡ None → (held : Pages) × (as_of snapshot world ≡ Ok held)
  look_is_held is = by_test ((snapshot == 0) || ltb (base.newest marks) snapshot) (ltb snapshot (base.oldest marks)) refl refl is
    where
      parts : (a b : Bool) → (a || b) ≡ false → (a ≡ false) × (b ≡ false)
      parts true b e = cc
      parts false b e = (refl, e)

      not_zero : (n : ℕ) → (n == 0) ≡ false → 1 ≤ n
      not_zero zero e = absurd cc
      not_zero (suc n) e = omega arith

      found : (mark : Mark Pages) → mark_of snapshot world.marks ≡ Some mark → ((snapshot == 0) || ltb (base.newest marks) snapshot) ≡ false → as_of snapshot world ≡ Ok mark.held
      found mark at e =
          as_of_is
          ∙ ap (λ (b : Bool). cond b (Err (refusal.NoSuchSnapshot snapshot (base.newest marks))) (held_by snapshot (base.oldest marks) (mark_of snapshot world.marks))) e
          ∙ ap (held_by snapshot (base.oldest marks)) at

      by_test : (none below : Bool) → ((snapshot == 0) || ltb (base.newest marks) snapshot) ≡ none → ltb snapshot (base.oldest marks) ≡ below
          → option_or (cond none (Some (refusal.NoSuchSnapshot snapshot (base.newest marks))) None) (cond below (Some (refusal.Dropped snapshot (base.oldest marks))) None) ≡ None
          → (held : Pages) × (as_of snapshot world ≡ Ok held)
      by_test true below e f h = cc
      by_test false true e f h = cc
      by_test false false e f h =
          let both = parts (snapshot == 0) (ltb (base.newest marks) snapshot) e in
          let one = not_zero snapshot both.0 in
          let at = some_there snapshot world.marks numbered (omega (arith, same_oldest world marks names_are, ltb-false _ _ f)) (omega (arith, same_newest world marks names_are, ltb-false _ _ both.1)) one in
          (at.0.held, found at.0 at.1 e)

-- what holds of each snapshot holds of the one that was found
pub found_mark : (snapshot : ℕ) (P : Mark Pages → Type 0) (marks : List (Mark Pages)) (mark : Mark Pages) → AllByRecursion P marks → mark_of snapshot marks ≡ Some mark → P mark × (mark.number ≡ snapshot)
found_mark snapshot P [] mark all e = cc
found_mark snapshot P (first ∷ marks) mark all e = by_test (eqb_tells first.number snapshot) (found_mark snapshot P marks mark all.1) e
  where
    by_test : (((first.number == snapshot) ≡ true) × (first.number ≡ snapshot)) ⊎ (((first.number == snapshot) ≡ false) × (first.number ≢ snapshot))
        → (mark_of snapshot marks ≡ Some mark → P mark × (mark.number ≡ snapshot)) → cond (first.number == snapshot) (Some first) (mark_of snapshot marks) ≡ Some mark → P mark × (mark.number ≡ snapshot)
    by_test (inl is) rest e =
        let same : first ≡ mark = some_same (rw is.0 at e) in
        (subst P same all.0, sym (ap (λ (m : Mark Pages). m.number) same) ∙ is.1)
      where
        some_same : Some first ≡ Some mark → first ≡ mark
        some_same e = cc
    by_test (inr is) rest e = rest (rw is.0 at e)

-- the pages that stand at a snapshot
pub held_mark : (snapshot : ℕ) (world : World Pages) (held : Pages) (P : Mark Pages → Type 0) → AllByRecursion P world.marks → as_of snapshot world ≡ Ok held → (mark : Mark Pages) × P mark × (mark.number ≡ snapshot) × (mark.held ≡ held)
held_mark snapshot world held P all e = by_test ((snapshot == 0) || ltb (newest world) snapshot) (mark_of snapshot world.marks) refl e
  where
    ok_same : (pages : Pages) → ◌≡◌ {A = Result Pages Refusal} (Ok pages) (Ok held) → pages ≡ held
    ok_same pages e = cc

    by_test : (none : Bool) (o : Option (Mark Pages)) → mark_of snapshot world.marks ≡ o → cond none (Err (refusal.NoSuchSnapshot snapshot (newest world))) (held_by snapshot (oldest_of world.marks) o) ≡ Ok held
        → (mark : Mark Pages) × P mark × (mark.number ≡ snapshot) × (mark.held ≡ held)
    by_test true o at e = cc
    by_test false None at e = cc
    by_test false (Some mark) at e =
        let found = found_mark snapshot P world.marks mark all at in
        (mark, found.0, found.1, ok_same mark.held e)
