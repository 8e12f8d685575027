-- The least pin of what the sessions have open is the least pin that the journal tells.
use Rattle.std.proofs.Common.{◌≡◌, ◌≤◌, ◌<◌, ◌+◌, ◌⊎◌, ◌&&◌, ◌++◌, ◌∙◌, ℕ, zero, suc, Bool, true, false, cond, leb, List, [], ◌∷◌, filter, map, Option, Some, None, refl, sym, ap, subst, inl, inr, ⊎_elim, arith}
use Rattle.std.specs.Prelude.{nat_lt}
use Rattle.std.specs.List.{AllByRecursion}
use Rattle.std.proofs.lemmas.Bool.{cases_lt, leb-true, ltb-false, ltb-true}
use Rattle.retro_base.specs.declared.who.Who.{Who}
use Rattle.history.specs.declared.entry.Base.{Base}
use Rattle.history.specs.Lines.{pinned_by}
use Rattle.history.specs.Sound.{Pin, pins_of, same_item}
use Rattle.history.specs.Writes.{rises}
use Rattle.history.proofs.Items.{same_self}
use Rattle.history.proofs.SoundLaws.{items_are}
use Rattle.journal_book.specs.declared.work.Look.{Look}
use Rattle.journal_book.specs.declared.work.Work.{Work}
use Rattle.journal_book.specs.declared.work.Work.TheVariants.{KeptDrop, Looking, Open}
use Rattle.journal_book.specs.Works.{first_pin, least_pin, lesser, work_at}
use Rattle.journal_law.specs.Lawful.{IsLeastPin}
use Rattle.txn_set.specs.declared.ledger.Ledger.{Ledger}
use Rattle.txn_set.specs.WorksFit.{PinsFit, WorksFit, pins_at}
use Rattle.store.proofs.Finding.{some_is}

-- ---- the least of the sessions' first pins

-- The slot there pins it first, and each other pins a later snapshot first, or the same and stands no earlier.
record IsLeastAt (slots : List (Option Work)) (pin : ℕ × ℕ) : Type 0 where
  spot : ℕ
  here : first_pin (work_at slots spot) ≡ Some pin
  least : (other : ℕ) (q : ℕ × ℕ) → first_pin (work_at slots other) ≡ Some q → (pin.0 < q.0) ⊎ ((pin.0 ≡ q.0) × (spot ≤ other))

both_none : (a b : Option (ℕ × ℕ)) → lesser a b ≡ None → (a ≡ None) × (b ≡ None)
both_none None b e = (refl, e)
both_none (Some p) None e = absurd (cc e)
both_none (Some p) (Some q) e = at (nat_lt q.0 p.0) e where
  at : (test : Bool) → cond test (Some q) (Some p) ≡ None → (Some p ≡ None) × (Some q ≡ None)
  at true e = absurd (cc e)
  at false e = absurd (cc e)

none_pins : (slots : List (Option Work)) → least_pin slots ≡ None → (other : ℕ) (q : ℕ × ℕ) → first_pin (work_at slots other) ≡ Some q → ⊥
none_pins [] e other q f = absurd (cc f)
none_pins (slot ∷ slots) e zero q f = absurd (cc ((both_none (first_pin slot) (least_pin slots) e).0, f))
none_pins (slot ∷ slots) e (suc other) q f = none_pins slots (both_none (first_pin slot) (least_pin slots) e).1 other q f

module _ (slot : Option Work) (slots : List (Option Work)) where
  -- it is that of the first slot
  first_least : (p : ℕ × ℕ) → first_pin slot ≡ Some p → ((other : ℕ) (q : ℕ × ℕ) → first_pin (work_at slots other) ≡ Some q → p.0 ≤ q.0) → IsLeastAt (slot ∷ slots) p
  first_least p is rest = record { spot = zero; here = is; least = all } where
    all : (other : ℕ) (q : ℕ × ℕ) → first_pin (work_at (slot ∷ slots) other) ≡ Some q → (p.0 < q.0) ⊎ ((p.0 ≡ q.0) × (zero ≤ other))
    all zero q f = inr (ap (λ (x : ℕ × ℕ). x.0) (some_is p q (sym is ∙ f)), omega arith)
    all (suc other) q f = let up = rest other q f in ⊎_elim (λ (lt : p.0 < q.0). inl lt) (λ (le : q.0 ≤ p.0). inr (omega (arith, up, le), omega arith)) (cases_lt p.0 q.0)

  -- it is that of the others
  other_least : (p : ℕ × ℕ) → IsLeastAt slots p → ((q : ℕ × ℕ) → first_pin slot ≡ Some q → p.0 < q.0) → IsLeastAt (slot ∷ slots) p
  other_least p rest first = record { spot = suc rest.spot; here = rest.here; least = all } where
    all : (other : ℕ) (q : ℕ × ℕ) → first_pin (work_at (slot ∷ slots) other) ≡ Some q → (p.0 < q.0) ⊎ ((p.0 ≡ q.0) × (suc rest.spot ≤ other))
    all zero q f = inl (first q f)
    all (suc other) q f = ⊎_elim (λ (lt : p.0 < q.0). inl lt) (λ (x : (p.0 ≡ q.0) × (rest.spot ≤ other)). inr (x.0, let le = x.1 in omega (arith, le))) (rest.least other q f)

least_at : (slots : List (Option Work)) (p : ℕ × ℕ) → least_pin slots ≡ Some p → IsLeastAt slots p
least_at [] p e = absurd (cc e)
least_at (slot ∷ slots) p e = at (first_pin slot) refl (least_pin slots) refl e (λ q f. least_at slots q f) where
  at : (a : Option (ℕ × ℕ)) → first_pin slot ≡ a → (b : Option (ℕ × ℕ)) → least_pin slots ≡ b → lesser a b ≡ Some p → ((q : ℕ × ℕ) → least_pin slots ≡ Some q → IsLeastAt slots q) → IsLeastAt (slot ∷ slots) p
  at None is b least e again = other_least slot slots p (again p (least ∙ e)) (λ q f. absurd (cc (is, f)))
  at (Some one) is None least e again = subst (IsLeastAt (slot ∷ slots)) (some_is one p e) (first_least slot slots one is (λ other q f. absurd (none_pins slots least other q f)))
  at (Some one) is (Some two) least e again = pick (nat_lt two.0 one.0) refl e (again two least) where
    pick : (test : Bool) → nat_lt two.0 one.0 ≡ test → cond test (Some two) (Some one) ≡ Some p → IsLeastAt slots two → IsLeastAt (slot ∷ slots) p
    pick true less e rest = subst (IsLeastAt (slot ∷ slots)) (some_is two p e) (other_least slot slots two rest (λ q f. subst (λ (x : ℕ × ℕ). two.0 < x.0) (some_is one q (sym is ∙ f)) (ltb-true two.0 one.0 less)))
    pick false less e rest = subst (IsLeastAt (slot ∷ slots)) (some_is one p e) (first_least slot slots one is (λ other q f.
        let low = ltb-false two.0 one.0 less in
        ⊎_elim (λ (lt : two.0 < q.0). omega (arith, low, lt)) (λ (x : (two.0 ≡ q.0) × (rest.spot ≤ other)). let same = x.0 in omega (arith, low, same)) (rest.least other q f)))

-- ---- the pins of a look

looking_of : (w : Option Work) (pin : ℕ × ℕ) → first_pin w ≡ Some pin → (look : Look) × (w ≡ Some (Looking look))
looking_of None pin e = absurd (cc e)
looking_of (Some (Open t)) pin e = absurd (cc e)
looking_of (Some (Looking look)) pin e = (look, refl)
looking_of (Some (KeptDrop who)) pin e = absurd (cc e)

first_of_look : (look : Look) (pin : ℕ × ℕ) → first_pin (Some (Looking look)) ≡ Some pin → (rest : List ℕ) × (look.pins ≡ pin.0 ∷ rest) × (look.who.session ≡ pin.1)
first_of_look look pin e = at look.pins refl e where
  at : (pins : List ℕ) → look.pins ≡ pins → first_pin (Some (Looking (record look { pins = pins }))) ≡ Some pin → (rest : List ℕ) × (look.pins ≡ pin.0 ∷ rest) × (look.who.session ≡ pin.1)
  at [] is e = absurd (cc e)
  at (n ∷ rest) is e =
      let same = some_is (n, look.who.session) pin e in
      (rest, is ∙ ap (λ (x : ℕ × ℕ). x.0 ∷ rest) same, ap (λ (x : ℕ × ℕ). x.1) same)

look_first : (look : Look) (n : ℕ) (rest : List ℕ) → look.pins ≡ n ∷ rest → first_pin (Some (Looking look)) ≡ Some (n, look.who.session)
look_first look n rest is = ap (λ (pins : List ℕ). first_pin (Some (Looking (record look { pins = pins })))) is

both : (a b : Bool) → a && b ≡ true → (a ≡ true) × (b ≡ true)
both true b e = (refl, e)
both false b e = absurd (cc e)

-- what holds of all numbers from one on holds of those that rise from it
rising : (P : ℕ → Type 0) (low : ℕ) → ((n : ℕ) → low ≤ n → P n) → (least : ℕ) (pins : List ℕ) → low ≤ least → rises least pins ≡ true → AllByRecursion P pins
rising P low all least [] le up = tt
rising P low all least (pin ∷ pins) le up =
    let parts = both (leb least pin) (rises (pin + 1) pins) up in
    let here = leb-true least pin parts.0 in
    (all pin (omega (arith, le, here)), rising P low all (pin + 1) pins (omega (arith, le, here)) parts.1)

-- ---- the pins of the journal

-- what holds of each item's pins holds of all
each_pin : (P : ℕ → ℕ → Type 0) (pins : List Pin) → ((who : Who) → AllByRecursion (P who.session) (pinned_by who pins)) → AllByRecursion (λ (pin : Pin). P pin.who.session pin.snapshot) pins
each_pin P [] all = tt
each_pin P (pin ∷ pins) all = (own (same_item pin.who pin.who) (same_self pin.who) (all pin.who), each_pin P pins (λ who. rest who (same_item pin.who who) (all who))) where
  own : (b : Bool) → b ≡ true → AllByRecursion (P pin.who.session) (map (λ (p : Pin). p.snapshot) (cond b (pin ∷ filter (λ (p : Pin). same_item p.who pin.who) pins) (filter (λ (p : Pin). same_item p.who pin.who) pins))) → P pin.who.session pin.snapshot
  own true e a = a.0
  own false e a = absurd (cc e)

  rest : (who : Who) → (b : Bool) → AllByRecursion (P who.session) (map (λ (p : Pin). p.snapshot) (cond b (pin ∷ filter (λ (p : Pin). same_item p.who who) pins) (filter (λ (p : Pin). same_item p.who who) pins)))
      → AllByRecursion (P who.session) (pinned_by who pins)
  rest who true a = a.1
  rest who false a = a

head_is : (a b : ℕ) (xs ys : List ℕ) → a ∷ xs ≡ b ∷ ys → a ≡ b
head_is a b xs ys e = cc e

-- the first pin of an item is among all
among_pins : (who : Who) (n : ℕ) (rest : List ℕ) (pins : List Pin) → pinned_by who pins ≡ n ∷ rest → (front : List Pin) × (more : List Pin) × (pins ≡ front ++ record { who = who; snapshot = n } ∷ more)
among_pins who n rest [] e = absurd (cc e)
among_pins who n rest (pin ∷ pins) e = at (same_item pin.who who) refl e (λ f. among_pins who n rest pins f) where
  Found : List Pin → Type 0
  Found all = (front : List Pin) × (more : List Pin) × (all ≡ front ++ record { who = who; snapshot = n } ∷ more)

  at : (b : Bool) → same_item pin.who who ≡ b → map (λ (p : Pin). p.snapshot) (cond b (pin ∷ filter (λ (p : Pin). same_item p.who who) pins) (filter (λ (p : Pin). same_item p.who who) pins)) ≡ n ∷ rest
      → (pinned_by who pins ≡ n ∷ rest → Found pins) → Found (pin ∷ pins)
  at true same e again =
      let number : pin.snapshot ≡ n = head_is pin.snapshot n (pinned_by who pins) rest e in
      let item : pin.who ≡ who = items_are pin.who who same in
      ([], pins, λ i. record { who = item i; snapshot = number i } ∷ pins)
  at false same e again = let f = again e in (pin ∷ f.0, f.1, ap (λ (l : List Pin). pin ∷ l) f.2)

module _ (opening : Base) (l : Ledger) (works : WorksFit l) (fits : PinsFit opening l) (pin : ℕ × ℕ) (is : least_pin l.works.slots ≡ Some pin) where
  found : IsLeastAt l.works.slots pin
  found = least_at l.works.slots pin is

  look : (look : Look) × (work_at l.works.slots found.spot ≡ Some (Looking look))
  look = looking_of (work_at l.works.slots found.spot) pin found.here

  first : (rest : List ℕ) × (look.0.pins ≡ pin.0 ∷ rest) × (look.0.who.session ≡ pin.1)
  first = first_of_look look.0 pin (sym (ap first_pin look.1) ∙ found.here)

  spot_is : look.0.who.session ≡ found.spot
  spot_is = works.sessions found.spot (Looking look.0) look.1

  pinned_there : pinned_by look.0.who (pins_of opening [] l.book.lines) ≡ pin.0 ∷ first.0
  pinned_there =
      fits.pins look.0.who ∙ (ap (λ (n : ℕ). pins_at look.0.who (work_at l.works.slots n)) spot_is
      ∙ (ap (pins_at look.0.who) look.1 ∙ (ap (λ (b : Bool). cond b look.0.pins []) (same_self look.0.who) ∙ first.1)))

  -- no pin is lesser
  abbrev Later : ℕ → ℕ → Type 0
  Later session n = (pin.0 < n) ⊎ ((pin.0 ≡ n) × (pin.1 ≤ session))

  later_from : (session m : ℕ) → (pin.0 < m) ⊎ ((pin.0 ≡ m) × (found.spot ≤ session)) → (n : ℕ) → m ≤ n → Later session n
  later_from session m at n le = ⊎_elim (λ (lt : pin.0 < m). inl (omega (arith, lt, le)))
      (λ (x : (pin.0 ≡ m) × (found.spot ≤ session)). let same = x.0 in let up = x.1 in let s = spot_is in let t = first.2 in
      ⊎_elim (λ (lt : pin.0 < n). inl lt) (λ (ge : n ≤ pin.0). inr (omega (arith, same, le, ge), omega (arith, up, s, t))) (cases_lt pin.0 n)) at

  all_later : (who : Who) → AllByRecursion (Later who.session) (pinned_by who (pins_of opening [] l.book.lines))
  all_later who = subst (AllByRecursion (Later who.session)) (sym (fits.pins who)) (at (work_at l.works.slots who.session) refl) where
    at : (w : Option Work) → work_at l.works.slots who.session ≡ w → AllByRecursion (Later who.session) (pins_at who (work_at l.works.slots who.session))
    at w e = subst (λ (x : Option Work). AllByRecursion (Later who.session) (pins_at who x)) (sym e) (of w e) where
      of : (w : Option Work) → work_at l.works.slots who.session ≡ w → AllByRecursion (Later who.session) (pins_at who w)
      of None e = tt
      of (Some (Open t)) e = tt
      of (Some (KeptDrop drop)) e = tt
      of (Some (Looking other)) e = pick (same_item other.who who) where
        pins : (ns : List ℕ) → other.pins ≡ ns → rises 0 ns ≡ true → AllByRecursion (Later who.session) ns
        pins [] same up = tt
        pins (m ∷ ms) same up =
            let least = found.least who.session (m, other.who.session) (ap first_pin e ∙ look_first other m ms same) in
            let parts = both (leb 0 m) (rises (m + 1) ms) up in
            (later_from who.session m least m (omega arith), rising (Later who.session) m (later_from who.session m least) (m + 1) ms (omega arith) parts.1)

        pick : (b : Bool) → AllByRecursion (Later who.session) (cond b other.pins [])
        pick true = pins other.pins refl (works.each who.session (Looking other) e).pins_rise
        pick false = tt

  pub least_pin_is : (below : ℕ) → pin.0 < below → IsLeastPin (pins_of opening [] l.book.lines) below pin.0 pin.1
  least_pin_is below low =
      let among = among_pins look.0.who pin.0 first.0 (pins_of opening [] l.book.lines) pinned_there in
      record {
        lower = low;
        who = look.0.who;
        is = first.2;
        front = among.0;
        more = among.1;
        among = among.2;
        least = each_pin Later (pins_of opening [] l.book.lines) all_later;
      }
