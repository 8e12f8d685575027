-- A drop that is not refused is below no pin.
use Rattle.std.proofs.Common.{◌≡◌, ◌∙◌, ◌≤◌, ◌+◌, ◌&&◌, ◌||◌, ℕ, zero, suc, Bool, true, false, cond, eqb, ltb, leb, List, [], ◌∷◌, filter, map, Option, Some, None, refl, sym, ap, subst, arith}
use Rattle.std.specs.Prelude.{option_map}
use Rattle.std.specs.Option.{option_or}
use Rattle.std.specs.List.{AllByRecursion}
use Rattle.std.proofs.lemmas.Bool.{ltb-true, ltb-false, eqb-false, leb-true}
use Rattle.retro_base.specs.declared.refusal.Refusal.{Refusal}
use Rattle.retro_base.specs.declared.refusal.Refusal.TheVariants.{Pinned}
use Rattle.retro_base.specs.declared.who.Who.{Who}
use Rattle.history.specs.Lines.{base_of, pinned_by}
use Rattle.history.specs.Marks.{newest}
use Rattle.history.specs.Sound.{KeepsRules, Pin, pins_of, same_item}
use Rattle.history.specs.Writes.{rises}
use Rattle.history.proofs.Items.{same_self}
use Rattle.history.proofs.SoundLaws.{sound_with_one_more}
use Rattle.journal_book.specs.declared.work.Look.{Look}
use Rattle.journal_book.specs.declared.work.Work.{Work}
use Rattle.journal_book.specs.declared.work.Work.TheVariants.{Open, Looking, KeptDrop}
use Rattle.journal_book.specs.Works.{first_pin, least_pin, lesser, work_at}
use Rattle.txn_set.specs.Laws.{DropsStaySound}
use Rattle.txn_set.specs.Refused.{no_snapshot, pinned_below, stopped, where_so}
use Rattle.txn_set.specs.WorksFit.{pins_at}

none_first : {X : Type 0} (a b : Option X) → option_or a b ≡ None → a ≡ None
none_first None b e = refl
none_first (Some x) b e = absurd cc

none_next : {X : Type 0} (a b : Option X) → option_or a b ≡ None → b ≡ None
none_next None b e = e
none_next (Some x) b e = absurd cc

not_so : (test : Bool) (why : Refusal) → where_so test why ≡ None → test ≡ false
not_so false why e = refl
not_so true why e = absurd cc

or_none : (a b : Bool) → a || b ≡ false → (a ≡ false) × (b ≡ false)
or_none true b e = absurd cc
or_none false b e = (refl, e)

both : (a b : Bool) → a && b ≡ true → (a ≡ true) × (b ≡ true)
both true b e = (refl, e)
both false b e = absurd cc

-- the number is a snapshot's
is_snapshot : (below newest : ℕ) → no_snapshot below newest ≡ None → (1 ≤ below) × (below ≤ newest)
is_snapshot below newest none =
    let parts = or_none (eqb below 0) (ltb newest below) (not_so _ _ none) in
    (go below (eqb-false below 0 parts.0), ltb-false _ _ parts.1) where
      go : (n : ℕ) → (n ≡ 0 → ⊥) → 1 ≤ n
      go zero not = absurd (not refl)
      go (suc n) not = omega arith

-- the lesser of two pins is not below the number only where neither is
neither : (below : ℕ) (a b : Option (ℕ × ℕ)) → pinned_below below (lesser a b) ≡ None → (pinned_below below a ≡ None) × (pinned_below below b ≡ None)
neither below None b e = (refl, e)
neither below (Some p) None e = (e, refl)
neither below (Some p) (Some q) e = go (ltb q.0 p.0) refl e where
  not_below : (n : ℕ) (pin : ℕ × ℕ) → below ≤ n → n ≤ pin.0 → pinned_below below (Some pin) ≡ None
  not_below n pin le less = pick (ltb pin.0 below) refl where
    pick : (b : Bool) → ltb pin.0 below ≡ b → where_so (ltb pin.0 below) (Pinned pin.0 pin.1) ≡ None
    pick true f = absurd (omega (arith, le, less, ltb-true _ _ f))
    pick false f = ap (λ (b : Bool). where_so b (Pinned pin.0 pin.1)) f

  go : (b : Bool) → ltb q.0 p.0 ≡ b → pinned_below below (cond b (Some q) (Some p)) ≡ None → (pinned_below below (Some p) ≡ None) × (pinned_below below (Some q) ≡ None)
  go true f none = let le = ltb-false _ _ (not_so _ _ none) in (not_below q.0 p le (omega (arith, ltb-true _ _ f)), none)
  go false f none = let le = ltb-false _ _ (not_so _ _ none) in (none, not_below p.0 q le (ltb-false _ _ f))

at_each : (below : ℕ) (slots : List (Option Work)) (session : ℕ) → pinned_below below (least_pin slots) ≡ None → pinned_below below (first_pin (work_at slots session)) ≡ None
at_each below [] session none = refl
at_each below (slot ∷ slots) zero none = (neither below (first_pin slot) (least_pin slots) none).0
at_each below (slot ∷ slots) (suc session) none = at_each below slots session (neither below (first_pin slot) (least_pin slots) none).1

rising : (below least : ℕ) (pins : List ℕ) → below ≤ least → rises least pins ≡ true → AllByRecursion (λ (n : ℕ). below ≤ n) pins
rising below least [] le up = tt
rising below least (pin ∷ pins) le up =
    let parts = both (leb least pin) (rises (pin + 1) pins) up in
    let low = leb-true _ _ parts.0 in
    (omega (arith, le, low), rising below (pin + 1) pins (omega (arith, le, low)) parts.1)

pins_above : (below : ℕ) (look : Look) → rises 0 look.pins ≡ true → pinned_below below (first_pin (Some (Looking look))) ≡ None → AllByRecursion (λ (n : ℕ). below ≤ n) look.pins
pins_above below look up none = go look.pins up (at look.pins none) where
  at : (pins : List ℕ) → pinned_below below (first_pin (Some (Looking (record look { pins = pins })))) ≡ None → (pin : ℕ) (more : List ℕ) → pins ≡ pin ∷ more → below ≤ pin
  at [] e pin more is = absurd cc
  at (first ∷ rest) e pin more is = subst (λ (n : ℕ). below ≤ n) (head first pin rest more is) (ltb-false _ _ (not_so _ _ e)) where
    head : (a b : ℕ) (xs ys : List ℕ) → a ∷ xs ≡ b ∷ ys → a ≡ b
    head a b xs ys e = cc

  go : (pins : List ℕ) → rises 0 pins ≡ true → ((pin : ℕ) (more : List ℕ) → pins ≡ pin ∷ more → below ≤ pin) → AllByRecursion (λ (n : ℕ). below ≤ n) pins
  go [] up first = tt
  go (pin ∷ pins) up first =
      let le = first pin pins refl in
      (le, rising below (pin + 1) pins (omega (arith, le)) (both (leb 0 pin) (rises (pin + 1) pins) up).1)

-- where each item's pins are at least the number, all are
each_pin : (below : ℕ) (pins : List Pin) → ((who : Who) → AllByRecursion (λ (n : ℕ). below ≤ n) (pinned_by who pins)) → AllByRecursion (λ (pin : Pin). below ≤ pin.snapshot) pins
each_pin below [] all = tt
each_pin below (pin ∷ pins) all = (own (same_item pin.who pin.who) (same_self pin.who) (all pin.who), each_pin below pins (λ who. rest who (same_item pin.who who) (all who))) where
  own : (b : Bool) → b ≡ true → AllByRecursion (λ (n : ℕ). below ≤ n) (map (λ (p : Pin). p.snapshot) (cond b (pin ∷ filter (λ (p : Pin). same_item p.who pin.who) pins) (filter (λ (p : Pin). same_item p.who pin.who) pins))) → below ≤ pin.snapshot
  own true e a = a.0
  own false e a = absurd cc

  rest : (who : Who) → (b : Bool) → AllByRecursion (λ (n : ℕ). below ≤ n) (map (λ (p : Pin). p.snapshot) (cond b (pin ∷ filter (λ (p : Pin). same_item p.who who) pins) (filter (λ (p : Pin). same_item p.who who) pins)))
      → AllByRecursion (λ (n : ℕ). below ≤ n) (pinned_by who pins)
  rest who true a = a.1
  rest who false a = a

pub drops_stay_sound : DropsStaySound
drops_stay_sound opening fault l line below sound place fits pins none is =
    let rest = none_next (option_map stopped fault) _ none in
    let number = is_snapshot below (newest (base_of opening l.book.lines).marks) (none_first (no_snapshot below (newest (base_of opening l.book.lines).marks)) _ rest) in
    let free = none_next (no_snapshot below (newest (base_of opening l.book.lines).marks)) _ rest in
    (sound_with_one_more opening l.book.lines line).1 (
      sound,
      place,
      subst (KeepsRules (base_of opening l.book.lines) (pins_of opening [] l.book.lines)) (sym is)
          (number.0, number.1, each_pin below (pins_of opening [] l.book.lines) (λ who. subst (AllByRecursion (λ (n : ℕ). below ≤ n)) (sym (pins.pins who)) (above who (work_at l.works.slots who.session) refl free))),
    ) where
      above : (who : Who) (work : Option Work) → work_at l.works.slots who.session ≡ work → pinned_below below (least_pin l.works.slots) ≡ None → AllByRecursion (λ (n : ℕ). below ≤ n) (pins_at who (work_at l.works.slots who.session))
      above who work e free = subst (λ (w : Option Work). AllByRecursion (λ (n : ℕ). below ≤ n) (pins_at who w)) (sym e) (go work e (ap (λ (w : Option Work). pinned_below below (first_pin w)) (sym e) ∙ at_each below l.works.slots who.session free)) where
        go : (work : Option Work) → work_at l.works.slots who.session ≡ work → pinned_below below (first_pin work) ≡ None → AllByRecursion (λ (n : ℕ). below ≤ n) (pins_at who work)
        go None e f = tt
        go (Some (Open t)) e f = tt
        go (Some (KeptDrop drop)) e f = tt
        go (Some (Looking look)) e f = pick (same_item look.who who) where
          pick : (b : Bool) → AllByRecursion (λ (n : ℕ). below ≤ n) (cond b look.pins [])
          pick true = pins_above below look (fits.each who.session (Looking look) e).pins_rise f
          pick false = tt
