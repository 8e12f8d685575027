-- The table at its start, with the seats that are dealt out, and at its end, with those that are gathered.
use Rattle.std.proofs.Common.{◌≡◌, ℕ, zero, suc, ◌+◌, ◌-◌, ◌*◌, ◌<◌, ◌≤◌, ◌⊎◌, List, [], ◌∷◌, ◌++◌, map, length, slice_get, cond, refl, ap, sym, ◌∙◌, subst, inl, inr, ⊎_elim, arith, Option, Some, None, is_some, eq-eqb, ne_eqb}
use mathlib.Core.Option.{some, some-injective, some-ne-none}
use mathlib.Core.List.{IsPrefix}
use mathlib.Core.Logic.{dite}
use native.Mathlib.Decide.{ℕ_discrete, dec_le}
use lib.ListN.{get_elem?}
use Rattle.atomic_table.specs.Seated.{TableId}
use Rattle.atomic_table.specs.Table.{opening, Final, Seen}
use Rattle.retro_base.specs.declared.device.Device.{Device}
use Rattle.history.specs.declared.journal.Line.{Line}
use Rattle.turn.specs.declared.seat.SeatOver.{SeatOver}
use Rattle.turn.specs.declared.view.Holding.{Holding}
use Rattle.turn.specs.declared.view.Kept.{Kept}
use Rattle.turn.specs.declared.view.Kept.TheVariants.{Desk, Vault}
use Rattle.turn.specs.declared.view.Place.{Place}
use Rattle.turn.specs.declared.view.Place.TheVariants.{Outside, Waits, Inside}
use Rattle.turn.specs.declared.view.View.{View}
use Rattle.turn.specs.Faults.{fault_lines, fault_times}
use Rattle.history.specs.Lines.{FaultsDiffer, horizon_of, lines_of}
use Rattle.turn.specs.Meanings.{OpeningMeaning, DeskMeaning, VaultMeaning}
use Rattle.turn.specs.Queue.{Lock, Stands, total, tickets_in, is_inside}
use Rattle.turn.specs.Rule.{HasPart, HavePart, IsCounted, IsHorizon, IsNewer, IsOwn, IsRuled, Knows, count_now, told_times}
use Rattle.turn.specs.Seats.{AreClosed, AreNew, AreRight, AreWhole, Covers, IsRight, MayOpen, Rests, mine, seen, view_of}
use Rattle.turn.specs.Seats as at
use Rattle.turn.specs.Views.{PARTS, dealt, desk_of, first_of, first_view, fresh, fresh_from, joined, parts_in, parts_of, undealt, vault_of, view}
use Rattle.turn.proofs.Cuts.{Each, front_each, back_each, none_each}
use Rattle.turn.proofs.Seating.{at_mapped}
use Rattle.turn.proofs.Totals.{total_alone, total_append, total_at, total_some, total_two}

fresh_parts : (W : Type 0) (k n : ℕ) → total (λ (h : Holding W). h.parts) (fresh_from k n) ≡ PARTS * n
fresh_parts W k zero = refl
fresh_parts W k (suc n) = let r = fresh_parts W (suc k) n in omega arith

fresh_here : (W : Type 0) (x k : ℕ) → k ≡ x → parts_in {W = W} x (fresh k) ≡ PARTS
fresh_here W x k e = ap (λ (b : _). cond b PARTS 0) (eq-eqb k x e)

fresh_there : (W : Type 0) (x k : ℕ) → (k ≡ x → ⊥) → parts_in {W = W} x (fresh k) ≡ 0
fresh_there W x k ne = ap (λ (b : _). cond b PARTS 0) (ne_eqb k x ne)

fresh_below : (W : Type 0) (x k n : ℕ) → x < k → total (parts_in {W = W} x) (fresh_from k n) ≡ 0
fresh_below W x k zero h = refl
fresh_below W x k (suc n) h = let r = fresh_below W x (suc k) n (omega arith) in let e = fresh_there W x k (λ z. omega arith) in omega arith

fresh_above : (W : Type 0) (x k n : ℕ) → k + n ≤ x → total (parts_in {W = W} x) (fresh_from k n) ≡ 0
fresh_above W x k zero h = refl
fresh_above W x k (suc n) h = let r = fresh_above W x (suc k) n (omega arith) in let e = fresh_there W x k (λ z. omega arith) in omega arith

fresh_within : (W : Type 0) (x k n : ℕ) → k ≤ x → x < k + n → total (parts_in {W = W} x) (fresh_from k n) ≡ PARTS
fresh_within W x k zero h l = absurd (omega arith)
fresh_within W x k (suc n) h l = dite (ℕ_discrete k x)
    (λ z. let e = fresh_here W x k z in let r = fresh_below W x (suc k) n (omega arith) in omega arith)
    (λ z. let e = fresh_there W x k z in let r = fresh_within W x (suc k) n (omega arith) (omega arith) in omega arith)

fresh_told : (W : Type 0) (d : Device) (c k n : ℕ) → total (λ (h : Holding W). fault_times d c h.faults) (fresh_from k n) ≡ 0
fresh_told W d c k zero = refl
fresh_told W d c k (suc n) = let r = fresh_told W d c (suc k) n in omega arith

fresh_each : {W : Type 0} (P : Holding W → Type 0) → ((k : ℕ) → P (fresh k)) → (k n : ℕ) → Each P (fresh_from k n)
fresh_each P all k zero i h e = absurd (some-ne-none h (sym e))
fresh_each P all k (suc n) zero h e = subst P (some-injective (fresh k) h e) (all k)
fresh_each P all k (suc n) (suc i) h e = fresh_each P all (suc k) n i h e

module _ {O W A B : Type 0} (o : OpeningMeaning O) (a : DeskMeaning O W A) (b : VaultMeaning O B) (limit : ℕ) where
  abbrev first : A → View O W A B
  first desk = first_view (a.opening desk) limit

  first_knows : (desk : A) (vault : B) → ((n : ℕ) → a.work_of desk n ≡ None) → a.journal desk ≡ [] → Knows o a b desk vault (first desk)
  first_knows desk vault idle empty = record {
    front = (a.journal desk, refl);
    heard = none_each (λ f. _);
    held = omega arith;
    in_desk = λ n x e. absurd (cc e);
    in_vault = λ n x e. absurd (cc e);
    own = fresh_each (IsOwn (a.journal desk) (a.work_of desk)) (λ k p. (sym (ap (lines_of k) empty), sym (idle k))) 0 limit;
    newer = fresh_each _ (λ k d c e lt t l. absurd (omega arith)) 0 limit;
    parts = fresh_each HasPart (λ k. omega arith) 0 limit;
    opening = λ x e. sym (cc e);
    part = λ p. absurd (omega arith);
  }

  outside : {X : Type 0} (i : ℕ) (p : Place X) → get_elem? (Outside ∷ []) i ≡ some p → Stands 0 0 (λ n. n) i p
  outside zero p e = subst (Stands 0 0 (λ n. n) 0) (some-injective Outside p e) tt
  outside (suc i) p e = absurd (some-ne-none p (sym e))

  first_lock : {X S : Type 0} (value : S) → Lock {X = X} 0 0 value (some (Some value)) (Outside ∷ [])
  first_lock value = record {
    queue = record {
      next = 0;
      now = 0;
      owner = λ n. n;
      ticket_is = refl;
      serving_is = refl;
      out = refl;
      held = λ n lo hi. absurd (omega arith);
      each = outside;
    };
    home = inl (refl, refl);
  }

  -- a new table keeps the rule
  pub starts : (desk : A) (vault : B) (word : ℕ) → limit ≤ 65536 → MayOpen o a b desk vault → IsHorizon word (horizon_of (o.base (a.opening desk)) (a.journal desk))
      → IsRuled o a b (a.opening desk) limit (opening (0 ∷ 0 ∷ word ∷ 0 ∷ 0 ∷ b.held vault ∷ []) (Some (Desk desk) ∷ Some (Vault vault) ∷ []) (first desk))
  starts desk vault word few may shown = record {
    desk = desk;
    vault = vault;
    words = record { desk_ticket = 0; desk_serving = 0; horizon = word; vault_ticket = 0; vault_serving = 0; held = b.held vault };
    desk_slot = some (Some (Desk desk));
    vault_slot = some (Some (Vault vault));
    words_are = refl;
    homes_are = refl;
    opened = refl;
    agree = record { lawful = may.lawful; desk_fits = may.desk_fits; vault_fits = may.vault_fits; horizon = shown; held_is = refl; acked = may.acked; counts = may.counts };
    desk_lock = first_lock (Desk desk);
    vault_lock = first_lock (Vault vault);
    seats = record {
      few = few;
      parts = let x = fresh_parts W 0 limit in omega arith;
      numbers = λ n. ((λ lt. let x = fresh_within W n 0 limit (omega arith) (omega arith) in omega arith), (λ ge. let x = fresh_above W n 0 limit (omega arith) in omega arith));
      foreign = λ n ge. (ap (lines_of n) may.empty, may.idle n);
      differ = subst FaultsDiffer (sym may.empty) (λ d. tt);
      faults = λ d c. let x = fresh_told W d c 0 limit in let y = ap (fault_lines d c) may.empty in record { once = λ lt. omega arith; above = λ lt h. absurd (omega arith); below = λ h. absurd (omega arith) };
      heard = λ d up. let none = may.begins d in absurd (omega arith);
      known = λ i v e. known i v e;
    };
  }
    where
      known : (i : ℕ) (v : View O W A B) → get_elem? (first desk ∷ []) i ≡ some v → Knows o a b desk vault v
      known zero v e = subst (Knows o a b desk vault) (some-injective (first desk) v e) (first_knows desk vault may.idle may.empty)
      known (suc i) v e = absurd (some-ne-none v (sym e))

  -- where one seat has all parts, nobody has a ticket
  nobody : {X : Type 0} (f : View O W A B → Place X) (views : List (View O W A B)) (id : ℕ) (v : View O W A B) → get_elem? views id ≡ some v → f v ≡ Outside → total parts_of views ≡ parts_of v
      → ((i : ℕ) (u : View O W A B) → get_elem? views i ≡ some u → 0 < tickets_in (f u) → 0 < parts_of u) → total is_inside (map f views) ≡ 0
  nobody f views id v at out all part = dite (dec_le (total is_inside (map f views)) 0) (λ z. omega arith) (λ z.
      let g = total_some is_inside (map f views) (omega arith) in
      let u = at_mapped f views g.0 g.1 g.2 in
      let some_ = part g.0 u.0 u.1 (subst (λ p. 0 < tickets_in p) (sym u.2) (has_ticket g.1 g.3)) in
      dite (ℕ_discrete g.0 id)
      (λ e. let same : u.0 ≡ v = some-injective u.0 v (sym u.1 ∙ (ap (get_elem? views) e ∙ at)) in
      let none_ : is_inside g.1 ≡ 0 = ap is_inside (sym u.2 ∙ (ap f same ∙ out)) in let h = g.3 in absurd (omega arith))
      (λ ne. let two = total_two parts_of views g.0 id u.0 v ne u.1 at in absurd (omega arith)))
    where
      has_ticket : {X : Type 0} (p : Place X) → 0 < is_inside p → 0 < tickets_in p
      has_ticket Outside h = absurd (omega arith)
      has_ticket (Waits n) h = absurd (omega arith)
      has_ticket (Inside n x) h = omega arith

  at_home : {X S : Type 0} (t s : ℕ) (value : S) (slot : _) (places : List (Place X)) → Lock t s value slot places → total is_inside places ≡ 0 → slot ≡ some (Some value)
  at_home t s value slot places l none_ = ⊎_elim (λ (h : (slot ≡ some (Some value)) × (total is_inside places ≡ 0)). h.0) (λ (h : (slot ≡ _) × (total is_inside places ≡ 1)). let one = h.1 in absurd (omega arith)) l.home

  -- a view that was told a fault has a part
  told_part : (d : Device) (c : ℕ) (u : View O W A B) → HavePart u.holds → 0 < told_times d c u → 0 < parts_of u
  told_part d c u parts told =
      let g = total_some (λ (h : Holding W). fault_times d c h.faults) u.holds told in
      let some_ = parts g.0 g.1 g.2 in
      let most = total_at (λ (h : Holding W). h.parts) u.holds g.0 g.1 g.2 in omega arith

  -- with all parts in one seat, both values are at home
  pub ends : (opened : O) (id : ℕ) (v : View O W A B) (words : List ℕ) (slots : List (Option (Kept A B))) → v.desk ≡ Outside → v.vault ≡ Outside → parts_of v ≡ PARTS * limit → Final (Seen (IsRuled o a b opened limit) id v) words slots
      → (desk : A) × (vault : B) × (get_elem? slots 0 ≡ some (Some (Desk desk))) × (get_elem? slots 1 ≡ some (Some (Vault vault))) × AreClosed o a b limit (λ d c. told_times d c v) desk vault × (a.opening desk ≡ opened) × Knows o a b desk vault v
  ends opened id v words slots out out' all fin =
      let s = fin.0 in
      let r : IsRuled o a b opened limit s = fin.1.0 in
      let at = fin.1.1 in
      let sum : total parts_of s.views ≡ parts_of v = r.seats.parts ∙ sym all in
      let no_desk = nobody desk_of s.views id v at out sum (λ i u e p. (r.seats.known i u e).part (omega arith)) in
      let no_vault = nobody vault_of s.views id v at out' sum (λ i u e p. (r.seats.known i u e).part (omega arith)) in
      let desk_home = at_home r.words.desk_ticket r.words.desk_serving (Desk r.desk) r.desk_slot (map desk_of s.views) r.desk_lock no_desk in
      let vault_home = at_home r.words.vault_ticket r.words.vault_serving (Vault r.vault) r.vault_slot (map vault_of s.views) r.vault_lock no_vault in (
        r.desk,
        r.vault,
        fin.4 0 (Some (Desk r.desk)) (ap (λ hs. get_elem? hs 0) r.homes_are ∙ ap some desk_home),
        fin.4 1 (Some (Vault r.vault)) (ap (λ hs. get_elem? hs 1) r.homes_are ∙ ap some vault_home),
        record {
          lawful = r.agree.lawful;
          desk_fits = r.agree.desk_fits;
          vault_fits = r.agree.vault_fits;
          acked = r.agree.acked;
          foreign = r.seats.foreign;
          counts = r.agree.counts;
          faults = λ d c. let f = r.seats.faults d c in let told = total_at (told_times d c) s.views id v at in
              record { once = λ lt. let most = f.once lt in omega arith; above = λ lt h. f.above lt (omega arith); below = λ h. f.below (omega arith) };
          heard = λ d up. let f = r.seats.heard d up in
              let told = total_alone (told_times d f.0) parts_of s.views id v at sum (λ i u e. told_part d f.0 u (r.seats.known i u e).parts) in let p = f.1 in (f.0, omega arith);
          differ = r.seats.differ;
        },
        r.opened,
        r.seats.known id v at,
      )

get_snoc : {X : Type 0} (xs : List X) (y : X) (k : ℕ) (x : X) → slice_get (xs ++ y ∷ []) k ≡ Some x → (slice_get xs k ≡ Some x) ⊎ ((k ≡ length xs) × (y ≡ x))
get_snoc [] y zero x e = inr (refl, cc)
get_snoc [] y (suc k) x e = absurd (cc)
get_snoc (z ∷ xs) y zero x e = inl e
get_snoc (z ∷ xs) y (suc k) x e = ⊎_elim (λ (t : slice_get xs k ≡ Some x). inl t) (λ (t : (k ≡ length xs) × (y ≡ x)). inr (ap suc t.0, t.1)) (get_snoc xs y k x e)

get_front : {X : Type 0} (xs ys : List X) (k : ℕ) (x : X) → slice_get xs k ≡ Some x → slice_get (xs ++ ys) k ≡ Some x
get_front [] ys k x e = absurd (cc)
get_front (z ∷ xs) ys zero x e = e
get_front (z ∷ xs) ys (suc k) x e = get_front xs ys k x e

get_last : {X : Type 0} (xs : List X) (x : X) → slice_get (xs ++ x ∷ []) (length xs) ≡ Some x
get_last [] x = refl
get_last (z ∷ xs) x = get_last xs x

module _ {O W A B : Type 0} where
  -- what is left of the first seat, of which the numbers from i on are not dealt, and the seat that is dealt
  abbrev pub undealt_view : O → ℕ → ℕ → View O W A B
  undealt_view x i n = view (Some x) Outside Outside [] [] 0 (fresh_from i (n - i))

  pub first_left : (x : O) (i n : ℕ) → i < n → undealt (undealt_view x i n) ≡ undealt_view x (i + 1) n
  first_left x i n lt = let e : n - i ≡ suc (n - (i + 1)) = omega arith in let f : suc i ≡ i + 1 = omega arith in
      ap (λ (k : ℕ). undealt (view (Some x) Outside Outside [] [] 0 (fresh_from i k))) e ∙ ap (λ (k : ℕ). view (Some x) Outside Outside [] [] 0 (fresh_from k (n - (i + 1)))) f

  pub first_right : (x : O) (i n : ℕ) → i < n → dealt (undealt_view x i n) ≡ view (Some x) Outside Outside [] [] 0 (fresh i ∷ [])
  first_right x i n lt = let e : n - i ≡ suc (n - (i + 1)) = omega arith in ap (λ (k : ℕ). dealt (view (Some x) Outside Outside [] [] 0 (fresh_from i k))) e

  pub one_new : (z : TableId) (x : O) (seats : List (SeatOver O W A B)) (s : SeatOver O W A B) → AreNew z x seats → s.seat.table_id ≡ z → s.number ≡ length seats
      → s.seat.me ≡ (view (Some x) Outside Outside [] [] 0 (fresh (length seats) ∷ []), []) → AreNew z x (seats ++ s ∷ [])
  one_new z x seats s old table number me k t e = ⊎_elim (λ (u : slice_get seats k ≡ Some t). old k t u)
      (λ (u : (k ≡ length seats) × (s ≡ t)). subst (λ (q : ℕ × SeatOver O W A B). New q.0 q.1) (λ i. (sym u.0 i, u.1 i)) new) (get_snoc seats s k t e)
    where
      New : ℕ → SeatOver O W A B → Type 0
      New k t = Rests z t × (t.number ≡ k) × (mine t ≡ fresh k) × (seen t ≡ []) × (at.opening t ≡ Some x)

      new : New (length seats) s
      new =
          let v = ap (λ m. m.0) me in (
            record {
              seat = record {
                table = table;
                opened = ap (λ (u : View O W A B). is_some u.opening) v;
                heard = ap (λ (u : View O W A B). u.heard) v;
                one = subst (λ (u : View O W A B). u.holds ≡ first_of u.holds ∷ []) (sym v) refl;
                number = ap (λ (u : View O W A B). (first_of u.holds).number) v ∙ sym number;
                part = subst (λ (u : View O W A B). 0 < (first_of u.holds).parts) (sym v) (omega arith);
              };
              desk = ap (λ (u : View O W A B). u.desk) v;
              vault = ap (λ (u : View O W A B). u.vault) v;
              slots = ap (λ m. m.1) me;
            },
            number,
            ap (λ (u : View O W A B). first_of u.holds) v,
            ap (λ (u : View O W A B). u.seen) v,
            ap (λ (u : View O W A B). u.opening) v,
          )

  pub whole_front : (z : TableId) (xs ys : List (SeatOver O W A B)) → AreWhole z (xs ++ ys) → AreWhole z xs
  whole_front z xs ys h k s e = h k s (get_front xs ys k s e)

  pub whole_last : (z : TableId) (xs : List (SeatOver O W A B)) (s : SeatOver O W A B) → AreWhole z (xs ++ s ∷ []) → Rests z s × ((mine s).parts ≡ PARTS)
  whole_last z xs s h = h (length xs) s (get_last xs s)

  pub parts_joined : (v w : View O W A B) → parts_of (joined v w) ≡ parts_of v + parts_of w
  parts_joined v w = total_append (λ (h : Holding W). h.parts) v.holds w.holds

  -- the faults that two views were told, and that one seat was
  pub told_joined : (d : Device) (c : ℕ) (v w : View O W A B) → told_times d c (joined v w) ≡ told_times d c v + told_times d c w
  told_joined d c v w = total_append (λ (h : Holding W). fault_times d c h.faults) v.holds w.holds

  pub told_one : (z : TableId) (d : Device) (c : ℕ) (s : SeatOver O W A B) → Rests z s → told_times d c (view_of s) ≡ fault_times d c (mine s).faults
  told_one z d c s r = let e = ap (total (λ (h : Holding W). fault_times d c h.faults)) r.seat.one in omega arith

  pub closed_as : (o : OpeningMeaning O) (a : DeskMeaning O W A) (b : VaultMeaning O B) (limit : ℕ) (told other : Device → ℕ → ℕ) (desk : A) (vault : B) → ((d : Device) (c : ℕ) → told d c ≡ other d c)
      → AreClosed o a b limit told desk vault → AreClosed o a b limit other desk vault
  closed_as o a b limit told other desk vault same x = record {
    lawful = x.lawful;
    desk_fits = x.desk_fits;
    vault_fits = x.vault_fits;
    acked = x.acked;
    foreign = x.foreign;
    counts = x.counts;
    faults = λ d c. subst (λ (n : ℕ). IsCounted (o.counts (a.opening desk) d) (count_now o a b desk vault d) c (fault_lines d c (a.journal desk) + n)) (same d c) (x.faults d c);
    heard = λ d up. let f = x.heard d up in let e = same d f.0 in let p = f.1 in (f.0, omega arith);
    differ = x.differ;
  }

  -- a seat that rests with all its parts
  pub parts_whole : (z : TableId) (s : SeatOver O W A B) → Rests z s → (mine s).parts ≡ PARTS → parts_of (view_of s) ≡ PARTS
  parts_whole z s r whole = let e = ap (total (λ (h : Holding W). h.parts)) r.seat.one in omega arith

  pub covers_one : (o : OpeningMeaning O) (a : DeskMeaning O W A) (b : VaultMeaning O B) (z : TableId) (v : View O W A B) (s : SeatOver O W A B) (seats : List (SeatOver O W A B)) → v.desk ≡ Outside → v.vault ≡ Outside → Rests z s
      → Covers o a b v seats → Covers o a b (joined v s.seat.me.0) (s ∷ seats)
  covers_one o a b z v s seats out out' r h desk vault k = go
    where
      own : IsOwn (a.journal desk) (a.work_of desk) (mine s)
      own = back_each (IsOwn (a.journal desk) (a.work_of desk)) v.holds s.seat.me.0.holds k.own 0 (mine s) (ap (λ (hs : List (Holding W)). get_elem? hs 0) r.seat.one)

      right : IsRight a b desk vault s
      right = record {
        front = back_each (λ (f : List Line). IsPrefix f (a.journal desk)) v.heard (seen s ∷ s.seat.me.0.heard) k.heard 0 (seen s) refl;
        lines = (own r.seat.part).0 ∙ ap (λ (n : ℕ). lines_of n (a.journal desk)) r.seat.number;
        work = (own r.seat.part).1 ∙ ap (a.work_of desk) r.seat.number;
        held = let x = k.held in omega arith;
        newer = back_each IsNewer v.holds s.seat.me.0.holds k.newer 0 (mine s) (ap (λ (hs : List (Holding W)). get_elem? hs 0) r.seat.one);
      }

      before : Knows o a b desk vault v
      before = record {
        front = k.front;
        heard = front_each (λ (f : List Line). IsPrefix f (a.journal desk)) v.heard (seen s ∷ s.seat.me.0.heard) k.heard;
        held = let x = k.held in omega arith;
        in_desk = λ n x e. absurd (cc (out, e));
        in_vault = λ n x e. absurd (cc (out', e));
        own = front_each (IsOwn (a.journal desk) (a.work_of desk)) v.holds s.seat.me.0.holds k.own;
        newer = front_each IsNewer v.holds s.seat.me.0.holds k.newer;
        parts = front_each HasPart v.holds s.seat.me.0.holds k.parts;
        opening = k.opening;
        part = λ p. let x = ap tickets_in out in let y = ap tickets_in out' in absurd (omega arith);
      }

      go : AreRight a b desk vault (s ∷ seats)
      go zero t e = let same : s ≡ t = cc e in subst (IsRight a b desk vault) same right
      go (suc i) t e = h desk vault before i t e
