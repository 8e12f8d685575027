-- A step of one seat, and the facts of all seats.
use Rattle.std.proofs.Common.{◌≡◌, ◌≢◌, ℕ, zero, suc, ◌+◌, ◌<◌, ◌≤◌, List, [], ◌∷◌, map, set, refl, ap, sym, ◌∙◌, subst, ⊎_elim, arith, Bool, true, cond}
use mathlib.Core.Option.{some, some-injective, some-ne-none}
use lib.ListN.{get_elem?}
use lib.Seq.{map-set}
use Rattle.atomic_table.proofs.Lists.{at_set, set_again, at_map}
use Rattle.turn.specs.declared.view.Holding.{Holding}
use Rattle.turn.specs.declared.view.Place.{Place}
use Rattle.turn.specs.declared.view.Place.TheVariants.{Outside, Waits, Inside}
use Rattle.turn.specs.declared.view.View.{View}
use Rattle.retro_base.specs.declared.device.Device.{Device}
use Rattle.turn.specs.Faults.{fault_lines, fault_times, is_of_desk}
use Rattle.turn.specs.Meanings.{OpeningMeaning, DeskMeaning, VaultMeaning}
use Rattle.turn.specs.Queue.{total, tickets_in, ticket_of}
use Rattle.turn.specs.Rule.{AreParts, AreSeats, IsCounted, IsHeard, Knows, TellsFaults, count_now, told_times}
use Rattle.turn.specs.Views.{parts_at, parts_in, parts_of, desk_of, vault_of}
use Rattle.turn.proofs.Totals.{total_at, total_set, total_le, total_map}

-- what one step does to the other elements
pub moved : {X : Type 0} (K : X → Type 0) (xs : List X) (me : ℕ) (w : X) → K w → ((j : ℕ) (x : X) → j ≢ me → get_elem? xs j ≡ some x → K x)
    → (j : ℕ) (x : X) → get_elem? (set xs me w) j ≡ some x → K x
moved K xs me w mine others j x e = ⊎_elim (λ (t : (j ≡ me) × (w ≡ x)). subst K t.1 mine) (λ (t : (j ≢ me) × (get_elem? xs j ≡ some x)). others j x t.0 t.1) (at_set xs me j w x e)

pub keep_total : {X : Type 0} (f : X → ℕ) (xs : List X) (me : ℕ) (v w : X) → get_elem? xs me ≡ some v → f w ≡ f v → total f (set xs me w) ≡ total f xs
keep_total f xs me v w at same = let sum = total_set f xs me v w at in omega arith

pub at_mapped : {X Y : Type 0} (f : X → Y) (xs : List X) (i : ℕ) (y : Y) → get_elem? (map f xs) i ≡ some y → (x : X) × (get_elem? xs i ≡ some x) × (f x ≡ y)
at_mapped f [] i y e = absurd (some-ne-none y (sym e))
at_mapped f (x ∷ xs) zero y e = (x, refl, some-injective (f x) y e)
at_mapped f (x ∷ xs) (suc i) y e = at_mapped f xs i y e

abbrev value_or : {X : Type 0} → X → Place X → X
value_or x Outside = x
value_or x (Waits n) = x
value_or x (Inside n y) = y

-- a seat is inside with one value
pub same_value : {X : Type 0} (n k : ℕ) (x y : X) → Inside n x ≡ Inside k y → x ≡ y
same_value n k x y e = ap (value_or x) e

pub same_ticket : {X : Type 0} (n k : ℕ) (p : Place X) → p ≡ Waits n → p ≡ Waits k → n ≡ k
same_ticket n k p e f = ap ticket_of (sym e ∙ f)

one_ticket : {X : Type 0} (p : Place X) (k : ℕ) → (0 < tickets_in p → 0 < k) → tickets_in p ≤ k
one_ticket Outside k h = omega arith
one_ticket (Waits n) k h = let p = h (omega arith) in omega arith
one_ticket (Inside n x) k h = let p = h (omega arith) in omega arith

module _ {O W A B : Type 0} where
  -- the places of one lock, where the step changes none and where it changes one
  pub same_places : {X : Type 0} (f : View O W A B → Place X) (vs : List (View O W A B)) (id : ℕ) (v w : View O W A B) → get_elem? vs id ≡ some v → f w ≡ f v → map f (set vs id w) ≡ map f vs
  same_places f vs id v w at same = map-set f vs id w ∙ (ap (set (map f vs) id) same ∙ set_again (map f vs) id (f v) (at_map f vs id v at))

  pub new_places : {X : Type 0} (f : View O W A B → Place X) (vs : List (View O W A B)) (id : ℕ) (w : View O W A B) (p : Place X) → f w ≡ p → map f (set vs id w) ≡ set (map f vs) id p
  new_places f vs id w p same = map-set f vs id w ∙ ap (set (map f vs) id) same

  pub place_at : {X : Type 0} (f : View O W A B → Place X) (vs : List (View O W A B)) (id : ℕ) (v : View O W A B) (p : Place X) → get_elem? vs id ≡ some v → f v ≡ p → get_elem? (map f vs) id ≡ some p
  place_at f vs id v p at is = at_map f vs id v at ∙ ap some is

-- a device is heard of, where each fault is told as often
pub heard_same : {opened count : ℕ} (before after : ℕ → ℕ) → ((c : ℕ) → before c ≡ after c) → IsHeard opened count before → IsHeard opened count after
heard_same before after same heard up = let h = heard up in let e = same h.0 in let p = h.1 in (h.0, omega arith)

module _ {O W A B : Type 0} (o : OpeningMeaning O) (a : DeskMeaning O W A) (b : VaultMeaning O B) (limit : ℕ) where
  -- there are fewer tickets than the words can tell apart
  pub few_desk : (desk : A) (vault : B) (views : List (View O W A B)) → AreSeats o a b limit desk vault views → total tickets_in (map desk_of views) < 18446744073709551616
  few_desk desk vault views s =
      let up : total (λ (v : View O W A B). tickets_in (desk_of v)) views ≤ total parts_of views = total_le (λ (v : View O W A B). tickets_in (desk_of v)) parts_of views (λ i v e. one_ticket v.desk (parts_of v) (λ l. (s.known i v e).part (omega arith))) in
      let same = total_map tickets_in desk_of views in
      let p = s.parts in let few = s.few in omega arith

  pub few_vault : (desk : A) (vault : B) (views : List (View O W A B)) → AreSeats o a b limit desk vault views → total tickets_in (map vault_of views) < 18446744073709551616
  few_vault desk vault views s =
      let up : total (λ (v : View O W A B). tickets_in (vault_of v)) views ≤ total parts_of views = total_le (λ (v : View O W A B). tickets_in (vault_of v)) parts_of views (λ i v e. one_ticket v.vault (parts_of v) (λ l. (s.known i v e).part (omega arith))) in
      let same = total_map tickets_in vault_of views in
      let p = s.parts in let few = s.few in omega arith

  -- the desk has the counts of its own devices
  pub desk_count : (desk : A) (vault : B) (d : Device) → is_of_desk d ≡ true → count_now o a b desk vault d ≡ a.counts desk d
  desk_count desk vault d is = ap (λ (t : Bool). cond t (a.counts desk d) (b.counts vault d)) is

  -- what the desk's value tells of faults to a seat that has this holding
  pub tells : (desk : A) (vault : B) (views : List (View O W A B)) (id k : ℕ) (v : View O W A B) (h : Holding W) → AreSeats o a b limit desk vault views → get_elem? views id ≡ some v → get_elem? v.holds k ≡ some h
      → TellsFaults a desk h
  tells desk vault views id k v h s at in_v = record {
    differ = s.differ;
    counted = λ d c of_desk some_. let under = (s.faults d c).below (omega arith) in let now = desk_count desk vault d of_desk in omega arith;
    told = λ d c lt t.
        let most = (s.faults d c).once lt in
        let mine = total_at (λ (g : Holding W). fault_times d c g.faults) v.holds k h in_v in
        let all = total_at (told_times d c) views id v at in omega arith;
    newer = (s.known id v at).newer k h in_v;
  }

  -- a step of one seat that changes neither value, nor what it holds
  pub reseated : (desk : A) (vault : B) (views : List (View O W A B)) (id : ℕ) (v w : View O W A B) → AreSeats o a b limit desk vault views → get_elem? views id ≡ some v → w.holds ≡ v.holds → Knows o a b desk vault w
      → AreSeats o a b limit desk vault (set views id w)
  reseated desk vault views id v w s at same mine = record {
    few = s.few;
    differ = s.differ;
    parts = keep_total parts_of views id v w at (ap (total (λ (h : Holding W). h.parts)) same) ∙ s.parts;
    numbers = λ n. subst (AreParts limit n) (sym (keep_total (parts_at n) views id v w at (ap (total (parts_in n)) same))) (s.numbers n);
    foreign = s.foreign;
    faults = λ d c. subst (λ (n : ℕ). IsCounted (o.counts (a.opening desk) d) (count_now o a b desk vault d) c (fault_lines d c (a.journal desk) + n))
        (sym (keep_total (told_times d c) views id v w at (ap (total (λ (h : Holding W). fault_times d c h.faults)) same))) (s.faults d c);
    heard = λ d. heard_same (λ c. fault_lines d c (a.journal desk) + total (told_times d c) views) (λ c. fault_lines d c (a.journal desk) + total (told_times d c) (set views id w))
        (λ c. ap (λ (n : ℕ). fault_lines d c (a.journal desk) + n) (sym (keep_total (told_times d c) views id v w at (ap (total (λ (h : Holding W). fault_times d c h.faults)) same)))) (s.heard d);
    known = moved (Knows o a b desk vault) views id w mine (λ j u other e. s.known j u e);
  }
