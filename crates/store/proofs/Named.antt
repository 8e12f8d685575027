-- The snapshots behind a journal have the numbers and labels that its log says.
use Rattle.std.proofs.Common.{◌≡◌, ◌≤◌, ◌<◌, ◌+◌, ◌++◌, ◌==◌, ◌||◌, ◌∙◌, ℕ, Bool, true, false, cond, List, [], ◌∷◌, Some, None, Result, Err, map, refl, ap, sym, subst, arith}
use Rattle.std.specs.Prelude.{nat_le, nat_lt}
use Rattle.std.proofs.lemmas.Bool.Decides.{nat_tests}
use Rattle.std.specs.Option.{option_or, option_to_list}
use Rattle.retro_base.specs.declared.refusal.Refusal.{Refusal}
use Rattle.retro_base.specs.declared.refusal.Refusal.TheVariants.{Dropped as DroppedSnapshot, NoSuchSnapshot}
use Rattle.retro_base.specs.declared.who.Who.{Who}
use Rattle.history.specs.declared.entry.Base.{Base}
use Rattle.history.specs.declared.entry.Change.TheVariants.{Drop}
use Rattle.history.specs.declared.entry.Mark.{Mark as MarkOf}
use Rattle.history.specs.declared.journal.Line.{Line}
use Rattle.history.specs.declared.journal.What.{What}
use Rattle.history.specs.declared.journal.What.TheVariants.{Began, Done, Overlapped, RolledBack, Looked, LookedAll, Unlooked, Dropped, Refused, Fault}
use Rattle.history.specs.History.{bases_after}
use Rattle.history.specs.Journal.{base_behind, change_of}
use Rattle.history.specs.Marks as marks
use Rattle.history.specs.Marks.{MarksRise, is_retained, kept_marks}
use Rattle.history.specs.Sound as sound
use Rattle.history.specs.Sound.{Pin}
use Rattle.history.proofs.Journals.{bases-append}
use Rattle.journal_law.specs.Pages.{Pages, page_step, page_world, pins_from}
use Rattle.journal_law.specs.Seats.{Name, names_of}
use Rattle.journal_law.specs.World.{Mark, World, as_of, held_by, kept, mark_of, newest_behind, oldest_of, pins_behind}
use Rattle.txn_set.specs.Refused.{where_so}
use Rattle.store.specs.Worlds.{AreNamed, NamesAreSame, NamesStay, OthersAreRefused, PinsAreSame, RetainedAreHeld}

push : (ms : List MarkOf) (ps : List (Mark Pages)) (m : MarkOf) (p : Mark Pages) → AreNamed ms ps → p.number ≡ m.number → p.label ≡ m.label → AreNamed (ms ++ m ∷ []) (ps ++ p ∷ [])
push [] [] m p are number label = (number, label, tt)
push [] (q ∷ ps) m p are number label = absurd are
push (x ∷ ms) [] m p are number label = absurd are
push (x ∷ ms) (q ∷ ps) m p are number label = (are.0, are.1, push ms ps m p are.2 number label)

drops : (below : ℕ) (ms : List MarkOf) (ps : List (Mark Pages)) → AreNamed ms ps → AreNamed (kept_marks below ms) (kept below ps)
drops below [] [] are = tt
drops below [] (p ∷ ps) are = absurd are
drops below (m ∷ ms) [] are = absurd are
drops below (m ∷ ms) (p ∷ ps) are = by_test (drops below ms ps are.2) (nat_le below m.number) (nat_le below p.number) (ap (nat_le below) (sym are.0)) where
  by_test : AreNamed (kept_marks below ms) (kept below ps) → (stays other : Bool) → stays ≡ other → AreNamed (cond stays (m ∷ ms) (kept_marks below ms)) (cond other (p ∷ ps) (kept below ps))
  by_test rest true true e = are
  by_test rest false false e = rest
  by_test rest true false e = cc
  by_test rest false true e = cc

kept_all : (below : ℕ) (ms : List MarkOf) (ps : List (Mark Pages)) → AreNamed ms ps → nat_lt (marks.oldest ms) below ≡ false → kept below ps ≡ ps
kept_all below [] [] are e = refl
kept_all below [] (p ∷ ps) are e = absurd are
kept_all below (m ∷ ms) [] are e = absurd are
kept_all below (m ∷ ms) (p ∷ ps) are e =
    let stays : nat_le below p.number ≡ true = rw are.0 (grind (arith, nat_tests, e)) in
    rw stays refl

newest_is : (ms : List MarkOf) (ps : List (Mark Pages)) → AreNamed ms ps → marks.newest ms ≡ newest_behind 0 ps
newest_is [] [] are = refl
newest_is [] (p ∷ ps) are = absurd are
newest_is (m ∷ ms) [] are = absurd are
newest_is (m ∷ []) (p ∷ []) are = sym are.0
newest_is (m ∷ []) (p ∷ q ∷ ps) are = absurd are.2
newest_is (m ∷ x ∷ ms) (p ∷ []) are = absurd are.2
newest_is (m ∷ x ∷ ms) (p ∷ q ∷ ps) are = newest_is (x ∷ ms) (q ∷ ps) are.2

oldest_is : (ms : List MarkOf) (ps : List (Mark Pages)) → AreNamed ms ps → marks.oldest ms ≡ oldest_of ps
oldest_is [] [] are = refl
oldest_is [] (p ∷ ps) are = absurd are
oldest_is (m ∷ ms) [] are = absurd are
oldest_is (m ∷ ms) (p ∷ ps) are = sym are.0

step : (base : Base) (world : World Pages) (who : Who) (what : What) → AreNamed base.marks world.marks → AreNamed (bases_after base (option_to_list (change_of base what))).marks (page_step world (record { who = who; what = what })).marks
step base world who (Done None []) are = are
step base world who (Done None (x ∷ writes)) are = are
step base world who (Done (Some label) writes) are = push base.marks world.marks _ _ are (ap (λ (n : ℕ). n + 1) (sym (newest_is base.marks world.marks are))) refl
step base world who (Dropped below) are = by_test (nat_lt (marks.oldest base.marks) below) refl where
  by_test : (test : Bool) → nat_lt (marks.oldest base.marks) below ≡ test → AreNamed (bases_after base (option_to_list (cond test (Some (Drop below)) None))).marks (kept below world.marks)
  by_test true e = drops below base.marks world.marks are
  by_test false e = rw (kept_all below base.marks world.marks are e) are
step base world who what are = are

pub names_stay : NamesStay
names_stay base world [] are = are
names_stay base world (l ∷ lines) are =
    let some = option_to_list (change_of base l.what) in
    subst (λ (b : Base). AreNamed b.marks (page_world (page_step world l) lines).marks) (sym (bases-append base some _)) (names_stay (base_behind base l) (page_step world l) lines (step base world l.who l.what are))

-- ---- pins

looks : (who : Who) (ms : List MarkOf) (ps : List (Mark Pages)) (pins : List Pin) → AreNamed ms ps → map (λ (p : Mark Pages). let pin : Pin = record { who = who; snapshot = p.number } in pin) ps ++ pins ≡ map (λ (m : MarkOf). let pin : Pin = record { who = who; snapshot = m.number } in pin) ms ++ pins
looks who [] [] pins are = refl
looks who [] (p ∷ ps) pins are = absurd are
looks who (m ∷ ms) [] pins are = absurd are
looks who (m ∷ ms) (p ∷ ps) pins are = λ i. record { who = who; snapshot = are.0 i } ∷ looks who ms ps pins are.2 i

pins_are : (base : Base) (world : World Pages) (pins : List Pin) (who : Who) (what : What) → AreNamed base.marks world.marks → pins_behind world pins who what ≡ sound.pins_behind base pins who what
pins_are base world pins who LookedAll are = looks who base.marks world.marks pins are
pins_are base world pins who Began are = refl
pins_are base world pins who (Done label writes) are = refl
pins_are base world pins who (Overlapped session item) are = refl
pins_are base world pins who RolledBack are = refl
pins_are base world pins who (Looked snapshot) are = refl
pins_are base world pins who Unlooked are = refl
pins_are base world pins who (Dropped below) are = refl
pins_are base world pins who (Refused why) are = refl
pins_are base world pins who (Fault device count call) are = refl

pins_along : (base : Base) (world : World Pages) (pins : List Pin) (lines : List Line) → AreNamed base.marks world.marks → pins_from world pins lines ≡ sound.pins_of base pins lines
pins_along base world pins [] are = refl
pins_along base world pins (l ∷ lines) are =
    ap (λ (ps : List Pin). pins_from (page_step world l) ps lines) (pins_are base world pins l.who l.what are) ∙ pins_along (base_behind base l) (page_step world l) (sound.pins_behind base pins l.who l.what) lines (step base world l.who l.what are)

pub pins_same : PinsAreSame
pins_same base world lines are = pins_along base world [] lines are

-- ---- names

names : (ms : List MarkOf) (ps : List (Mark Pages)) → AreNamed ms ps → names_of ms ≡ map (λ (p : Mark Pages). let name : Name = record { number = p.number; label = p.label } in name) ps
names [] [] are = refl
names [] (p ∷ ps) are = absurd are
names (m ∷ ms) [] are = absurd are
names (m ∷ ms) (p ∷ ps) are = λ i. record { number = sym are.0 i; label = sym are.1 i } ∷ names ms ps are.2 i

pub names_same : NamesAreSame
names_same base world are = (names base.marks world.marks are, newest_is base.marks world.marks are)

-- ---- snapshots

retained_low : (c n s number : ℕ) (ms : List MarkOf) → MarksRise c n s ms → is_retained number ms ≡ true → (n < number) × (number ≤ marks.newest ms)
retained_low c n s number [] rise is = absurd (cc is)
retained_low c n s number (m ∷ []) rise is = by_test (m.number == number) refl is where
  by_test : (b : Bool) → (m.number == number) ≡ b → (b || false) ≡ true → (n < number) × (number ≤ m.number)
  by_test true e k = let here : m.number ≡ number = grind (arith, nat_tests, e) in let low = rise.0 in (omega (arith, here, low), omega (arith, here))
  by_test false e k = absurd (cc k)
retained_low c n s number (m ∷ x ∷ ms) rise is = by_test (retained_low c m.number m.start number (x ∷ ms) rise.2) (m.number == number) refl is where
  top : (ms : List MarkOf) (n s : ℕ) (x : MarkOf) → MarksRise c n s (x ∷ ms) → n < marks.newest (x ∷ ms)
  top [] n s x r = let low = r.0 in omega (arith, low)
  top (y ∷ ms) n s x r = let low = r.0 in let more = top ms x.number x.start y r.2 in omega (arith, low, more)

  by_test : (is_retained number (x ∷ ms) ≡ true → (m.number < number) × (number ≤ marks.newest (x ∷ ms))) → (b : Bool) → (m.number == number) ≡ b → (b || is_retained number (x ∷ ms)) ≡ true → (n < number) × (number ≤ marks.newest (x ∷ ms))
  by_test later true e k = let here : m.number ≡ number = grind (arith, nat_tests, e) in let low = rise.0 in let up = top ms m.number m.start x rise.2 in (omega (arith, here, low), omega (arith, here, up))
  by_test later false e k = let r = later k in let low = rise.0 in let a = r.0 in (omega (arith, low, a), r.1)

mark_there : (number : ℕ) (ms : List MarkOf) (ps : List (Mark Pages)) → AreNamed ms ps → is_retained number ms ≡ true → (mark : Mark Pages) × (mark_of number ps ≡ Some mark)
mark_there number [] [] are is = absurd (cc is)
mark_there number [] (p ∷ ps) are is = absurd are
mark_there number (m ∷ ms) [] are is = absurd are
mark_there number (m ∷ ms) (p ∷ ps) are is = by_test (mark_there number ms ps are.2) (m.number == number) (p.number == number) (ap (λ (n : ℕ). n == number) (sym are.0)) is where
  by_test : (is_retained number ms ≡ true → (mark : Mark Pages) × (mark_of number ps ≡ Some mark)) → (one other : Bool) → one ≡ other → (one || is_retained number ms) ≡ true → (mark : Mark Pages) × (cond other (Some p) (mark_of number ps) ≡ Some mark)
  by_test later true true e k = (p, refl)
  by_test later false false e k = later k
  by_test later true false e k = absurd (cc e)
  by_test later false true e k = absurd (cc e)

no_mark : (c n s number : ℕ) (ms : List MarkOf) (ps : List (Mark Pages)) → MarksRise c n s ms → number ≤ n → AreNamed ms ps → mark_of number ps ≡ None
no_mark c n s number [] [] rise le are = refl
no_mark c n s number [] (p ∷ ps) rise le are = absurd are
no_mark c n s number (m ∷ ms) [] rise le are = absurd are
no_mark c n s number (m ∷ ms) (p ∷ ps) rise le are =
    let low = rise.0 in
    let same = are.0 in
    let test : (p.number == number) ≡ false = grind (arith, nat_tests, low, le, same) in
    ap (λ (b : Bool). cond b (Some p) (mark_of number ps)) test ∙ no_mark c m.number m.start number ms ps rise.2 (omega (arith, low, le)) are.2

pub retained_held : RetainedAreHeld
retained_held base world number rise are is =
    let low = retained_low base.captures 0 0 number base.marks rise is in
    let above = low.0 in
    let below = low.1 in
    let newest = newest_is base.marks world.marks are in
    let test : ((number == 0) || nat_lt (newest_behind 0 world.marks) number) ≡ false = grind (arith, nat_tests, above, below, newest) in
    let there = mark_there number base.marks world.marks are is in (
      there.0.held,
      ap (λ (b : Bool). cond b (Err (NoSuchSnapshot number (newest_behind 0 world.marks))) (held_by number (oldest_of world.marks) (mark_of number world.marks))) test
          ∙ ap (held_by number (oldest_of world.marks)) there.1,
    )

pub others_refused : OthersAreRefused
others_refused base world number why rise are is = by_number ((number == 0) || nat_lt (marks.newest base.marks) number) refl is where
  newest : marks.newest base.marks ≡ newest_behind 0 world.marks
  newest = newest_is base.marks world.marks are

  test_is : ((number == 0) || nat_lt (marks.newest base.marks) number) ≡ ((number == 0) || nat_lt (newest_behind 0 world.marks) number)
  test_is = ap (λ (n : ℕ). (number == 0) || nat_lt n number) newest

  answer : Bool → Result Pages Refusal
  answer b = cond b (Err (NoSuchSnapshot number (newest_behind 0 world.marks))) (held_by number (oldest_of world.marks) (mark_of number world.marks))

  by_oldest : ((number == 0) || nat_lt (marks.newest base.marks) number) ≡ false → (test : Bool) → nat_lt number (marks.oldest base.marks) ≡ test → where_so test (DroppedSnapshot number (marks.oldest base.marks)) ≡ Some why → as_of number world ≡ Err why
  by_oldest e false f s = absurd (cc s)
  by_oldest e true f s =
      ap answer (sym test_is ∙ e) ∙ (ap (held_by number (oldest_of world.marks)) (none base.marks world.marks rise are f) ∙ (ap (λ (o : ℕ). Err (DroppedSnapshot number o)) (sym (oldest_is base.marks world.marks are)) ∙ ap Err (cc s))) where
        none : (ms : List MarkOf) (ps : List (Mark Pages)) → MarksRise base.captures 0 0 ms → AreNamed ms ps → nat_lt number (marks.oldest ms) ≡ true → mark_of number ps ≡ None
        none [] [] r a t = refl
        none [] (p ∷ ps) r a t = absurd a
        none (m ∷ ms) [] r a t = absurd a
        none (m ∷ ms) (p ∷ ps) r a t =
            let same = a.0 in
            let less : number < m.number = grind (arith, nat_tests, t) in
            let test : (p.number == number) ≡ false = grind (arith, nat_tests, less, same) in
            ap (λ (b : Bool). cond b (Some p) (mark_of number ps)) test ∙ no_mark base.captures m.number m.start number ms ps r.2 (omega (arith, less)) a.2

  by_number : (test : Bool) → ((number == 0) || nat_lt (marks.newest base.marks) number) ≡ test → option_or (where_so test (NoSuchSnapshot number (marks.newest base.marks))) (where_so (nat_lt number (marks.oldest base.marks)) (DroppedSnapshot number (marks.oldest base.marks))) ≡ Some why → as_of number world ≡ Err why
  by_number true e s = ap answer (sym test_is ∙ e) ∙ (ap (λ (n : ℕ). Err (NoSuchSnapshot number n)) (sym newest) ∙ ap Err (cc s))
  by_number false e s = by_oldest e (nat_lt number (marks.oldest base.marks)) refl s
