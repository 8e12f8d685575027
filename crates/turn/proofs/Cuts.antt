-- Cutting and joining of views keeps the rule of the table.
use Rattle.std.proofs.Common.{◌≡◌, ℕ, zero, suc, ◌+◌, ◌-◌, ◌<◌, ◌⊎◌, max, List, [], ◌∷◌, ◌++◌, map, set, eqb, cond, Bool, true, false, refl, ap, sym, ◌∙◌, subst, inl, inr, ⊎_elim, arith, Option}
use mathlib.Core.Option.{some, some-injective, some-ne-none}
use mathlib.Core.List.{IsPrefix, map-append}
use mathlib.Core.Logic.{dite}
use native.Mathlib.Decide.{dec_lt}
use lib.ListN.{get_elem?}
use Rattle.atomic_table.specs.Table.{State, Enters, Splits, Joins}
use Rattle.atomic_table.proofs.Lists.{at_snoc, set_else}
use Rattle.retro_base.specs.declared.device.Device.{Device}
use Rattle.history.specs.declared.journal.Line.{Line}
use Rattle.turn.specs.declared.view.Holding.{Holding}
use Rattle.turn.specs.declared.view.Kept.{Kept}
use Rattle.turn.specs.declared.view.Kept.TheVariants.{Desk, Vault}
use Rattle.turn.specs.declared.view.Place.{Place}
use Rattle.turn.specs.declared.view.Place.TheVariants.{Outside}
use Rattle.turn.specs.declared.view.View.{View}
use Rattle.turn.specs.Faults.{fault_lines, fault_times}
use Rattle.history.specs.Lines.{lines_of}
use Rattle.turn.specs.Meanings.{OpeningMeaning, DeskMeaning, VaultMeaning}
use Rattle.turn.specs.Queue.{Lock, total, tickets_in}
use Rattle.turn.specs.Rule.{AreOwn, AreNewer, AreParts, HasPart, HavePart, IsCounted, IsNewer, IsOwn, IsRuled, Knows, count_now, told_times}
use Rattle.turn.specs.Views.{dealt, desk_of, first_of, firsts, joined, lending, lending_view, lent, lent_view, note_of, others, parts_at, parts_in, parts_of, returned, returned_view, spent, undealt, vault_of}
use Rattle.turn.proofs.Faults.{times_append}
use Rattle.turn.proofs.Locks.{lock_more}
use Rattle.turn.proofs.Recording.{only_one}
use Rattle.turn.proofs.Seating.{heard_same, moved, same_places}
use Rattle.turn.proofs.Totals.{total_append, total_set}

-- what is said of each of a list
abbrev pub Each : {X : Type 0} → (X → Type 0) → List X → Type 0
Each {X} P xs = (k : ℕ) (x : X) → get_elem? xs k ≡ some x → P x

pub none_each : {X : Type 0} (P : X → Type 0) → Each P []
none_each P k x e = absurd (some-ne-none x (sym e))

at_append : {X : Type 0} (xs ys : List X) (i : ℕ) (x : X) → get_elem? (xs ++ ys) i ≡ some x → ((j : ℕ) × (get_elem? xs j ≡ some x)) ⊎ ((j : ℕ) × (get_elem? ys j ≡ some x))
at_append [] ys i x e = inr (i, e)
at_append (y ∷ xs) ys zero x e = inl (zero, e)
at_append (y ∷ xs) ys (suc i) x e = ⊎_elim (λ (t : (j : ℕ) × (get_elem? xs j ≡ some x)). inl (suc t.0, t.1)) (λ (t : (j : ℕ) × (get_elem? ys j ≡ some x)). inr t) (at_append xs ys i x e)

pub both_each : {X : Type 0} (P : X → Type 0) (xs ys : List X) → Each P xs → Each P ys → Each P (xs ++ ys)
both_each {X = X} P xs ys p q k x e = ⊎_elim (λ (t : (j : ℕ) × (get_elem? xs j ≡ some x)). p t.0 x t.1) (λ (t : (j : ℕ) × (get_elem? ys j ≡ some x)). q t.0 x t.1) (at_append xs ys k x e)

pub front_each : {X : Type 0} (P : X → Type 0) (xs ys : List X) → Each P (xs ++ ys) → Each P xs
front_each P [] ys h k y e = absurd (some-ne-none y (sym e))
front_each P (x ∷ xs) ys h zero y e = h zero y e
front_each P (x ∷ xs) ys h (suc k) y e = front_each P xs ys (λ j z q. h (suc j) z q) k y e

pub back_each : {X : Type 0} (P : X → Type 0) (xs ys : List X) → Each P (xs ++ ys) → Each P ys
back_each P [] ys h = h
back_each P (x ∷ xs) ys h = back_each P xs ys (λ j z q. h (suc j) z q)

one_each : {X : Type 0} (P : X → Type 0) (x : X) (xs : List X) → P x → Each P xs → Each P (x ∷ xs)
one_each P x xs p q zero y e = subst P (some-injective x y e) p
one_each P x xs p q (suc k) y e = q k y e

firsts_total : {W : Type 0} (f : Holding W → ℕ) (hs : List (Holding W)) → total f (others hs) + total f (firsts hs) ≡ total f hs
firsts_total f [] = refl
firsts_total f (h ∷ hs) = omega arith

firsts_each : {W : Type 0} (P : Holding W → Type 0) (hs : List (Holding W)) → Each P hs → Each P (others hs) × Each P (firsts hs)
firsts_each P [] h = (h, h)
firsts_each P (x ∷ hs) h = ((λ k y e. h (suc k) y e), only_one P x (h zero x refl))

weigh : (t : Bool) (i j k : ℕ) → i + j ≡ k → (cond t i 0 + 0) + (cond t j 0 + 0) ≡ cond t k 0 + 0
weigh true i j k e = omega arith
weigh false i j k e = omega arith

-- the faults of a helper are newer than the lines of its seat, which are the same
newer_both : {W : Type 0} (h g : Holding W) → h.lines ≡ g.lines → IsNewer h → IsNewer g → IsNewer (returned g h)
newer_both h g same mine theirs d c e lt t l =
    let sum = times_append d c h.faults g.faults in
    dite (dec_lt 0 (fault_times d c h.faults)) (λ p. mine d c e lt p l) (λ p. theirs d c e lt (omega arith) (subst (λ (ls : List Line). 0 < fault_lines d e ls) same l))

module _ {O W A B : Type 0} where
  -- a quantity that is cut in two with a view
  abbrev Parted : (View O W A B → ℕ) → View O W A B → View O W A B → View O W A B → Type 0
  Parted f v left right = f left + f right ≡ f v

  -- what is counted over all views
  pub record AreParted (v left right : View O W A B) : Type 0 where
    pub parts : Parted parts_of v left right
    pub numbers : (n : ℕ) → Parted (parts_at n) v left right
    pub told : (d : Device) (c : ℕ) → Parted (told_times d c) v left right

  more_places : {X : Type 0} (f : View O W A B → Place X) (vs : List (View O W A B)) (w : View O W A B) → f w ≡ Outside → map f (vs ++ w ∷ []) ≡ map f vs ++ Outside ∷ []
  more_places f vs w out = map-append f vs (w ∷ []) ∙ ap (λ (p : Place _). map f vs ++ p ∷ []) out

module _ {O W A B : Type 0} (o : OpeningMeaning O) (a : DeskMeaning O W A) (b : VaultMeaning O B) (first : O) (limit : ℕ) where
  abbrev Rule : State (Option (Kept A B)) (View O W A B) → Type 0
  Rule = IsRuled o a b first limit

  -- a new seat with some of what another had
  splits : (id : ℕ) (v left right : View O W A B) → v.desk ≡ Outside → v.vault ≡ Outside → left.desk ≡ Outside → left.vault ≡ Outside → right.desk ≡ Outside → right.vault ≡ Outside
      → AreParted v left right → ((desk : A) (vault : B) → Knows o a b desk vault v → Knows o a b desk vault left × Knows o a b desk vault right) → Splits Rule id v left right
  splits id v left right out out' left_out left_out' right_out right_out' sums knows s r at =
      let vs : List (View O W A B) = set s.views id left in
      let all : List (View O W A B) = vs ++ right ∷ [] in
      let totals : (f : View O W A B → ℕ) → f left + f right ≡ f v → total f all ≡ total f s.views = λ f e. let x = total_set f s.views id v left at in let y = total_append f vs (right ∷ []) in omega arith in
      let k = knows r.desk r.vault (r.seats.known id v at) in
      record {
        desk = r.desk;
        vault = r.vault;
        words = r.words;
        desk_slot = r.desk_slot;
        vault_slot = r.vault_slot;
        words_are = r.words_are;
        homes_are = r.homes_are;
        opened = r.opened;
        agree = r.agree;
        desk_lock = subst (Lock r.words.desk_ticket r.words.desk_serving (Desk r.desk) r.desk_slot)
            (sym (more_places desk_of vs right right_out ∙ ap (λ (ps : List (Place A)). ps ++ Outside ∷ []) (same_places desk_of s.views id v left at (left_out ∙ sym out))))
            (lock_more r.words.desk_ticket r.words.desk_serving (Desk r.desk) r.desk_slot (map desk_of s.views) r.desk_lock);
        vault_lock = subst (Lock r.words.vault_ticket r.words.vault_serving (Vault r.vault) r.vault_slot)
            (sym (more_places vault_of vs right right_out' ∙ ap (λ (ps : List (Place B)). ps ++ Outside ∷ []) (same_places vault_of s.views id v left at (left_out' ∙ sym out'))))
            (lock_more r.words.vault_ticket r.words.vault_serving (Vault r.vault) r.vault_slot (map vault_of s.views) r.vault_lock);
        seats = record {
          few = r.seats.few;
          differ = r.seats.differ;
          parts = totals parts_of sums.parts ∙ r.seats.parts;
          numbers = λ n. subst (AreParts limit n) (sym (totals (parts_at n) (sums.numbers n))) (r.seats.numbers n);
          foreign = r.seats.foreign;
          faults = λ d c. subst (λ (n : ℕ). IsCounted (o.counts (a.opening r.desk) d) (count_now o a b r.desk r.vault d) c (fault_lines d c (a.journal r.desk) + n)) (sym (totals (told_times d c) (sums.told d c))) (r.seats.faults d c);
          heard = λ d. heard_same (λ c. fault_lines d c (a.journal r.desk) + total (told_times d c) s.views) (λ c. fault_lines d c (a.journal r.desk) + total (told_times d c) all) (λ c. ap (λ (n : ℕ). fault_lines d c (a.journal r.desk) + n) (sym (totals (told_times d c) (sums.told d c)))) (r.seats.heard d);
          known = λ i u e. ⊎_elim (λ (z : get_elem? vs i ≡ some u). moved (Knows o a b r.desk r.vault) s.views id left k.0 (λ j x _ q. r.seats.known j x q) i u z)
              (λ (z : right ≡ u). subst (Knows o a b r.desk r.vault) z k.1) (at_snoc vs right u i e);
        };
      }

  spent_knows : (desk : A) (vault : B) → Knows o a b desk vault (spent {O = O} {W = W} {A = A} {B = B})
  spent_knows desk vault = record {
    front = (a.journal desk, refl);
    heard = none_each (λ f. IsPrefix f (a.journal desk));
    held = omega arith;
    in_desk = λ n x e. absurd (cc e);
    in_vault = λ n x e. absurd (cc e);
    own = none_each (IsOwn (a.journal desk) (a.work_of desk));
    newer = none_each IsNewer;
    parts = none_each HasPart;
    opening = λ x e. absurd (cc e);
    part = λ p. absurd (omega arith);
  }

  -- a seat is joined into another, and a spent one is left
  joins : (id other : ℕ) (v w both : View O W A B) → v.desk ≡ Outside → v.vault ≡ Outside → w.desk ≡ Outside → w.vault ≡ Outside → both.desk ≡ Outside → both.vault ≡ Outside
      → AreParted both v w → ((desk : A) (vault : B) → Knows o a b desk vault v → Knows o a b desk vault w → Knows o a b desk vault both) → Joins Rule id v other w both spent
  joins id other v w both out out' w_out w_out' both_out both_out' sums knows s r at ne at' =
      let vs : List (View O W A B) = set s.views id both in
      let all : List (View O W A B) = set vs other spent in
      let there : get_elem? s.views other ≡ some w = sym (set_else s.views id other both ne) ∙ at' in
      let totals : (f : View O W A B → ℕ) → f spent ≡ 0 → f v + f w ≡ f both → total f all ≡ total f s.views = λ f z e. let x = total_set f s.views id v both at in let y = total_set f vs other w spent at' in omega arith in
      let k = knows r.desk r.vault (r.seats.known id v at) (r.seats.known other w there) in
      record {
        desk = r.desk;
        vault = r.vault;
        words = r.words;
        desk_slot = r.desk_slot;
        vault_slot = r.vault_slot;
        words_are = r.words_are;
        homes_are = r.homes_are;
        opened = r.opened;
        agree = r.agree;
        desk_lock = subst (Lock r.words.desk_ticket r.words.desk_serving (Desk r.desk) r.desk_slot)
            (sym (same_places desk_of vs other w spent at' (sym w_out) ∙ same_places desk_of s.views id v both at (both_out ∙ sym out))) r.desk_lock;
        vault_lock = subst (Lock r.words.vault_ticket r.words.vault_serving (Vault r.vault) r.vault_slot)
            (sym (same_places vault_of vs other w spent at' (sym w_out') ∙ same_places vault_of s.views id v both at (both_out' ∙ sym out'))) r.vault_lock;
        seats = record {
          few = r.seats.few;
          differ = r.seats.differ;
          parts = totals parts_of refl sums.parts ∙ r.seats.parts;
          numbers = λ n. subst (AreParts limit n) (sym (totals (parts_at n) refl (sums.numbers n))) (r.seats.numbers n);
          foreign = r.seats.foreign;
          faults = λ d c. subst (λ (n : ℕ). IsCounted (o.counts (a.opening r.desk) d) (count_now o a b r.desk r.vault d) c (fault_lines d c (a.journal r.desk) + n)) (sym (totals (told_times d c) refl (sums.told d c))) (r.seats.faults d c);
          heard = λ d. heard_same (λ c. fault_lines d c (a.journal r.desk) + total (told_times d c) s.views) (λ c. fault_lines d c (a.journal r.desk) + total (told_times d c) all) (λ c. ap (λ (n : ℕ). fault_lines d c (a.journal r.desk) + n) (sym (totals (told_times d c) refl (sums.told d c)))) (r.seats.heard d);
          known = moved (Knows o a b r.desk r.vault) vs other spent (spent_knows r.desk r.vault) (λ j u _ e. moved (Knows o a b r.desk r.vault) s.views id both k (λ i x _ q. r.seats.known i x q) j u e);
        };
      }

  -- a new seat that has nothing
  pub enters : (slots i : ℕ) → Enters Rule slots i (λ n w. w ≡ spent)
  enters slots i s r deep small =
      let all : List (View O W A B) = s.views ++ spent ∷ [] in
      let totals : (f : View O W A B → ℕ) → f spent ≡ 0 → total f all ≡ total f s.views = λ f z. let x = total_append f s.views (spent ∷ []) in omega arith in (
        spent,
        record {
          desk = r.desk;
          vault = r.vault;
          words = r.words;
          desk_slot = r.desk_slot;
          vault_slot = r.vault_slot;
          words_are = r.words_are;
          homes_are = r.homes_are;
          opened = r.opened;
          agree = r.agree;
          desk_lock = subst (Lock r.words.desk_ticket r.words.desk_serving (Desk r.desk) r.desk_slot) (sym (more_places desk_of s.views spent refl))
              (lock_more r.words.desk_ticket r.words.desk_serving (Desk r.desk) r.desk_slot (map desk_of s.views) r.desk_lock);
          vault_lock = subst (Lock r.words.vault_ticket r.words.vault_serving (Vault r.vault) r.vault_slot) (sym (more_places vault_of s.views spent refl))
              (lock_more r.words.vault_ticket r.words.vault_serving (Vault r.vault) r.vault_slot (map vault_of s.views) r.vault_lock);
          seats = record {
            few = r.seats.few;
            differ = r.seats.differ;
            parts = totals parts_of refl ∙ r.seats.parts;
            numbers = λ n. subst (AreParts limit n) (sym (totals (parts_at n) refl)) (r.seats.numbers n);
            foreign = r.seats.foreign;
            faults = λ d c. subst (λ (n : ℕ). IsCounted (o.counts (a.opening r.desk) d) (count_now o a b r.desk r.vault d) c (fault_lines d c (a.journal r.desk) + n)) (sym (totals (told_times d c) refl)) (r.seats.faults d c);
            heard = λ d. heard_same (λ c. fault_lines d c (a.journal r.desk) + total (told_times d c) s.views) (λ c. fault_lines d c (a.journal r.desk) + total (told_times d c) all) (λ c. ap (λ (n : ℕ). fault_lines d c (a.journal r.desk) + n) (sym (totals (told_times d c) refl))) (r.seats.heard d);
            known = λ j u e. ⊎_elim (λ (z : get_elem? s.views j ≡ some u). r.seats.known j u z) (λ (z : spent ≡ u). subst (Knows o a b r.desk r.vault) z (spent_knows r.desk r.vault)) (at_snoc s.views spent u j e);
          };
        },
        refl,
      )

  -- a view with other holdings, outside both locks
  with_holds : (desk : A) (vault : B) (v : View O W A B) (hs : List (Holding W)) → v.desk ≡ Outside → v.vault ≡ Outside → AreOwn (a.journal desk) (a.work_of desk) hs → AreNewer hs → HavePart hs → Knows o a b desk vault v
      → Knows o a b desk vault (record v { holds = hs })
  with_holds desk vault v hs out out' own newer parts k = record {
    front = k.front;
    heard = k.heard;
    held = k.held;
    in_desk = k.in_desk;
    in_vault = k.in_vault;
    own = own;
    newer = newer;
    parts = parts;
    opening = k.opening;
    part = λ p. let x = ap tickets_in out in let y = ap tickets_in out' in absurd (omega arith);
  }

  -- a new view with what one has seen
  new_knows : (desk : A) (vault : B) (v : View O W A B) (hs : List (Holding W)) → AreOwn (a.journal desk) (a.work_of desk) hs → AreNewer hs → HavePart hs → Knows o a b desk vault v
      → Knows o a b desk vault (record { opening = v.opening; desk = Outside; vault = Outside; seen = v.seen; heard = []; held = v.held; holds = hs })
  new_knows desk vault v hs own newer parts k = record {
    front = k.front;
    heard = none_each (λ f. IsPrefix f (a.journal desk));
    held = k.held;
    in_desk = λ n x e. absurd (cc e);
    in_vault = λ n x e. absurd (cc e);
    own = own;
    newer = newer;
    parts = parts;
    opening = k.opening;
    part = λ p. absurd (omega arith);
  }

  pub deals : (id : ℕ) (v : View O W A B) → v.desk ≡ Outside → v.vault ≡ Outside → Splits Rule id v (undealt v) (dealt v)
  deals id v out out' = splits id v (undealt v) (dealt v) out out' out out' refl refl
      (record { parts = firsts_total (λ (h : Holding W). h.parts) v.holds; numbers = λ n. firsts_total (parts_in n) v.holds; told = λ d c. firsts_total (λ (h : Holding W). fault_times d c h.faults) v.holds })
      (λ desk vault k.
      let own = firsts_each (IsOwn (a.journal desk) (a.work_of desk)) v.holds k.own in
      let newer = firsts_each IsNewer v.holds k.newer in
      let parts = firsts_each HasPart v.holds k.parts in
      (with_holds desk vault v (others v.holds) out out' own.0 newer.0 parts.0 k, new_knows desk vault v (firsts v.holds) own.1 newer.1 parts.1 k))

  pub notes : (id : ℕ) (v : View O W A B) → v.desk ≡ Outside → v.vault ≡ Outside → Splits Rule id v v (note_of v)
  notes id v out out' = splits id v v (note_of v) out out' out out' refl refl
      (record { parts = omega arith; numbers = λ n. omega arith; told = λ d c. omega arith })
      (λ desk vault k. (k, new_knows desk vault v [] (none_each (IsOwn (a.journal desk) (a.work_of desk))) (none_each IsNewer) (none_each HasPart) k))

  -- the seat lends a part of its one number
  pub lends : (id : ℕ) (h : Holding W) (v : View O W A B) → v.desk ≡ Outside → v.vault ≡ Outside → v.holds ≡ h ∷ [] → 1 < h.parts → Splits Rule id v (lending_view v) (lent_view v)
  lends id h v out out' one parts = splits id v (lending_view v) (lent_view v) out out' out out' refl refl
      (record {
        parts = let x = ap (λ (hs : List (Holding W)). total (λ (g : Holding W). g.parts) (map lending hs) + total (λ (g : Holding W). g.parts) (map lent hs)) one in
            let y = ap (total (λ (g : Holding W). g.parts)) one in omega arith;
        numbers = λ n. ap (λ (hs : List (Holding W)). total (parts_in n) (map lending hs) + total (parts_in n) (map lent hs)) one
            ∙ (weigh (eqb h.number n) (h.parts - 1) 1 h.parts (omega arith) ∙ sym (ap (total (parts_in n)) one));
        told = λ d c. let x = ap (λ (hs : List (Holding W)). total (λ (g : Holding W). fault_times d c g.faults) (map lending hs) + total (λ (g : Holding W). fault_times d c g.faults) (map lent hs)) one in
            let y = ap (total (λ (g : Holding W). fault_times d c g.faults)) one in omega arith;
      })
      (λ desk vault k.
      let own : IsOwn (a.journal desk) (a.work_of desk) h = k.own 0 h (ap (λ (hs : List (Holding W)). get_elem? hs 0) one) in
      let newer : IsNewer h = k.newer 0 h (ap (λ (hs : List (Holding W)). get_elem? hs 0) one) in
      let P : Holding W → Type 0 = IsOwn (a.journal desk) (a.work_of desk) in (
        with_holds desk vault v (map lending v.holds) out out' (subst (Each P) (sym (ap (map lending) one)) (only_one P (lending h) (λ p. own (omega arith)))) (subst AreNewer (sym (ap (map lending) one)) (only_one IsNewer (lending h) newer)) (subst HavePart (sym (ap (map lending) one)) (only_one HasPart (lending h) (omega arith))) k,
        new_knows desk vault v (map lent v.holds) (subst (Each P) (sym (ap (map lent) one)) (only_one P (lent h) (λ p. own (omega arith))))
            (subst AreNewer (sym (ap (map lent) one)) (only_one IsNewer (lent h) (λ d c e lt t l. absurd (omega arith)))) (subst HavePart (sym (ap (map lent) one)) (only_one HasPart (lent h) (omega arith))) k,
      ))

  -- a view that heard of another, with these holdings
  hears : (desk : A) (vault : B) (v w : View O W A B) (hs : List (Holding W)) → v.desk ≡ Outside → v.vault ≡ Outside → AreOwn (a.journal desk) (a.work_of desk) hs → AreNewer hs → HavePart hs → Knows o a b desk vault v → Knows o a b desk vault w
      → Knows o a b desk vault (record v { heard = v.heard ++ w.seen ∷ w.heard; held = max v.held w.held; holds = hs })
  hears desk vault v w hs out out' own newer parts k l = record {
    front = k.front;
    heard = both_each (λ f. IsPrefix f (a.journal desk)) v.heard (w.seen ∷ w.heard) k.heard (one_each (λ f. IsPrefix f (a.journal desk)) w.seen w.heard l.front l.heard);
    held = let x = k.held in let y = l.held in omega arith;
    in_desk = k.in_desk;
    in_vault = λ n x e. absurd (cc (out', e));
    own = own;
    newer = newer;
    parts = parts;
    opening = k.opening;
    part = λ p. let x = ap tickets_in out in let y = ap tickets_in out' in absurd (omega arith);
  }

  pub gathers : (id other : ℕ) (v w : View O W A B) → v.desk ≡ Outside → v.vault ≡ Outside → w.desk ≡ Outside → w.vault ≡ Outside → Joins Rule id v other w (joined v w) spent
  gathers id other v w out out' w_out w_out' = joins id other v w (joined v w) out out' w_out w_out' out out'
      (record {
        parts = sym (total_append (λ (h : Holding W). h.parts) v.holds w.holds);
        numbers = λ n. sym (total_append (parts_in n) v.holds w.holds);
        told = λ d c. sym (total_append (λ (h : Holding W). fault_times d c h.faults) v.holds w.holds);
      })
      (λ desk vault k l. hears desk vault v w (v.holds ++ w.holds) out out' (both_each (IsOwn (a.journal desk) (a.work_of desk)) v.holds w.holds k.own l.own) (both_each IsNewer v.holds w.holds k.newer l.newer) (both_each HasPart v.holds w.holds k.parts l.parts) k l)

  -- the seat has its helper's part again
  pub returns : (id other : ℕ) (h g : Holding W) (v w : View O W A B) → v.desk ≡ Outside → v.vault ≡ Outside → w.desk ≡ Outside → w.vault ≡ Outside
      → v.holds ≡ h ∷ [] → w.holds ≡ g ∷ [] → 0 < h.parts → g.parts ≡ 1 → g.number ≡ h.number → Joins Rule id v other w (returned_view v w) spent
  returns id other h g v w out out' w_out w_out' one one' part part' same =
      let both : List (Holding W) = map (returned (first_of w.holds)) v.holds in
      let both_is : both ≡ returned g h ∷ [] = ap (λ (x : List (Holding W) × List (Holding W)). map (returned (first_of x.0)) x.1) (λ i. (one' i, one i)) in
      joins id other v w (returned_view v w) out out' w_out w_out' out out'
      (record {
        parts = let x = ap (total (λ (z : Holding W). z.parts)) one in let y = ap (total (λ (z : Holding W). z.parts)) one' in let q = ap (total (λ (z : Holding W). z.parts)) both_is in omega arith;
        numbers = λ n.
            let x : total (parts_in n) w.holds ≡ cond (eqb h.number n) 1 0 + 0 = ap (total (parts_in n)) one' ∙ ap (λ (z : ℕ × ℕ). cond (eqb z.0 n) z.1 0 + 0) (λ i. (same i, part' i)) in
            ap (λ (z : ℕ × ℕ). z.0 + z.1) (λ i. (ap (total (parts_in n)) one i, x i)) ∙ (weigh (eqb h.number n) h.parts 1 (h.parts + 1) refl ∙ sym (ap (total (parts_in n)) both_is));
        told = λ d c.
            let x = ap (total (λ (z : Holding W). fault_times d c z.faults)) one in let y = ap (total (λ (z : Holding W). fault_times d c z.faults)) one' in
            let q = ap (total (λ (z : Holding W). fault_times d c z.faults)) both_is in let sum = times_append d c h.faults g.faults in omega arith;
      })
      (λ desk vault k l.
      let P : Holding W → Type 0 = IsOwn (a.journal desk) (a.work_of desk) in
      let own : P h = k.own 0 h (ap (λ (hs : List (Holding W)). get_elem? hs 0) one) in
      let own' : P g = l.own 0 g (ap (λ (hs : List (Holding W)). get_elem? hs 0) one') in
      let lines : h.lines ≡ g.lines = (own part).0 ∙ sym ((own' (omega arith)).0 ∙ ap (λ (n : ℕ). lines_of n (a.journal desk)) same) in
      hears desk vault v w both out out' (subst (Each P) (sym both_is) (only_one P (returned g h) (λ p. own part)))
      (subst AreNewer (sym both_is) (only_one IsNewer (returned g h) (newer_both h g lines (k.newer 0 h (ap (λ (hs : List (Holding W)). get_elem? hs 0) one)) (l.newer 0 g (ap (λ (hs : List (Holding W)). get_elem? hs 0) one'))))) (subst HavePart (sym both_is) (only_one HasPart (returned g h) (omega arith))) k l)
