-- Each step of a seat keeps the queue of a lock, and the lock.
use Rattle.std.proofs.Common.{◌≡◌, ◌≢◌, ℕ, ◌+◌, ◌%◌, ◌<◌, ◌≤◌, List, [], ◌∷◌, ◌++◌, ◌⊎◌, zero, suc, length, set, refl, ap, sym, ◌∙◌, subst, inl, inr, ⊎_elim, arith, Option, Some}
use mathlib.Core.Option.{some, none, some-injective, some-ne-none}
use mathlib.Core.Option as maybe
use mathlib.Core.Logic.{dite}
use native.Mathlib.Decide.{ℕ_discrete, dec_le}
use lib.ListN.{get_elem?}
use Rattle.atomic_table.proofs.Lists.{at_set, set_here, set_else, at_snoc, at_longer, one_turn}
use Rattle.turn.specs.declared.view.Place.{Place}
use Rattle.turn.specs.declared.view.Place.TheVariants.{Outside, Waits, Inside}
use Rattle.turn.specs.Queue.{Lock, Queue, Stands, total, tickets_in, ticket_of, is_inside}
use Rattle.turn.proofs.Totals.{total_set, total_append, total_at, total_two, total_some}

abbrev pick : {P : Type 0} → Dec P → ℕ → ℕ → ℕ
pick (yes _) a b = a
pick (no _) a b = b

pub put : (ℕ → ℕ) → ℕ → ℕ → ℕ → ℕ
put f i c j = pick (ℕ_discrete j i) c (f j)

pub put_here : (f : ℕ → ℕ) (i c : ℕ) → put f i c i ≡ c
unfolding put
put_here f i c = go (ℕ_discrete i i)
  where
    go : (d : Dec (i ≡ i)) → pick d c (f i) ≡ c
    go (yes _) = refl
    go (no n) = absurd (n refl)

pub put_else : (f : ℕ → ℕ) (i c j : ℕ) → j ≢ i → put f i c j ≡ f j
unfolding put
put_else f i c j other = go (ℕ_discrete j i)
  where
    go : (d : Dec (j ≡ i)) → pick d c (f j) ≡ f j
    go (yes e) = absurd (other e)
    go (no _) = refl

abbrev M : ℕ
M = 18446744073709551616

-- what one step does to the other places
moved : {X : Type 0} (K : ℕ → Place X → Type 0) (ps : List (Place X)) (me : ℕ) (w : Place X) → K me w → ((j : ℕ) (p : Place X) → j ≢ me → get_elem? ps j ≡ some p → K j p)
    → (j : ℕ) (p : Place X) → get_elem? (set ps me w) j ≡ some p → K j p
moved {X} K ps me w mine others j p e = ⊎_elim (λ (t : (j ≡ me) × (w ≡ p)). subst (λ (x : ℕ × Place X). K x.0 x.1) (λ i. (sym t.0 i, t.1 i)) mine)
    (λ (t : (j ≢ me) × (get_elem? ps j ≡ some p)). others j p t.0 t.1) (at_set ps me j w p e)

module _ {X : Type 0} (t s : ℕ) (ps : List (Place X)) (q : Queue t s ps) where
  -- the ticket n is another's than a seat's whose ticket is not n
  others_ticket : (n me : ℕ) (v : Place X) → get_elem? ps me ≡ some v → q.now ≤ n → n < q.next → (tickets_in v ≡ 1 → ticket_of v ≢ n) → q.owner n ≢ me
  others_ticket n me v at lo hi not e =
      let h = q.held n lo hi in
      let same : h.0 ≡ v = some-injective h.0 v (sym h.1 ∙ (ap (get_elem? ps) e ∙ at)) in
      not (sym (ap tickets_in same) ∙ h.2) (sym (ap ticket_of same) ∙ h.3)

  pub draws_ticket : (me : ℕ) → me < length ps → get_elem? ps me ≡ some Outside → Queue ((t + 1) % M) s (set ps me (Waits q.next))
  draws_ticket me inside at =
      let sum = total_set tickets_in ps me Outside (Waits q.next) at in
      record {
        next = q.next + 1;
        now = q.now;
        owner = put q.owner q.next me;
        ticket_is = let e = q.ticket_is in omega arith;
        serving_is = q.serving_is;
        out = let o = q.out in omega arith;
        held = λ n lo hi. dite (ℕ_discrete n q.next)
            (λ e. (Waits q.next, ap (get_elem? (set ps me (Waits q.next))) (ap (put q.owner q.next me) e ∙ put_here q.owner q.next me) ∙ set_here ps me (Waits q.next) inside, refl, sym e))
            (λ ne. let h = q.held n lo (omega arith) in
            (h.0, ap (get_elem? (set ps me (Waits q.next))) (put_else q.owner q.next me n ne) ∙ (set_else ps me (q.owner n) (Waits q.next) (others_ticket n me Outside at lo (omega arith) (λ z. absurd (omega arith))) ∙ h.1), h.2, h.3));
        each = moved (Stands (q.next + 1) q.now (put q.owner q.next me)) ps me (Waits q.next) (let o = q.out in omega arith, omega arith, put_here q.owner q.next me)
            (λ j p other e. keeps j p (q.each j p e));
      }
    where
      keeps : (j : ℕ) (p : Place X) → Stands q.next q.now q.owner j p → Stands (q.next + 1) q.now (put q.owner q.next me) j p
      keeps j Outside k = tt
      keeps j (Waits n) k = let b = k.1 in (k.0, omega arith, put_else q.owner q.next me n (λ e. omega arith) ∙ k.2)
      keeps j (Inside n x) k = let a = k.0 in let b = k.1 in (k.0, omega arith, put_else q.owner q.next me n (λ e. omega arith) ∙ k.2)

  -- the ticket that is served is the lowest one
  pub is_served : (me n : ℕ) → get_elem? ps me ≡ some (Waits n) → total tickets_in ps < M → s ≡ n % M → n ≡ q.now
  is_served me n at few found = let k = q.each me (Waits n) at in let o = q.out in sym (one_turn q.now n M k.0 (let b = k.1 in omega arith) (sym q.serving_is ∙ found))

  pub nobody_inside : (me n : ℕ) → get_elem? ps me ≡ some (Waits n) → n ≡ q.now → total is_inside ps ≡ 0
  nobody_inside me n at here = dite (dec_le (total is_inside ps) 0) (λ z. omega arith) (λ some_one.
      let k = q.each me (Waits n) at in
      let f = total_some is_inside ps (omega arith) in
      go f.0 f.1 f.2 f.3 (q.each f.0 f.1 f.2) k.2)
    where
      go : (i : ℕ) (p : Place X) → get_elem? ps i ≡ some p → 0 < is_inside p → Stands q.next q.now q.owner i p → q.owner n ≡ me → total is_inside ps ≡ 0
      go i Outside e h st own = absurd (omega arith)
      go i (Waits m) e h st own = absurd (omega arith)
      go i (Inside m x) e h st own =
          let same : i ≡ me = sym st.2 ∙ (ap q.owner (st.0 ∙ sym here) ∙ own) in
          let clash : Inside m x ≡ Waits n = some-injective (Inside m x) (Waits n) (sym e ∙ (ap (get_elem? ps) same ∙ at)) in absurd (cc)

  -- a seat with a ticket stands elsewhere with it
  pub stays_in : (me : ℕ) (v w : Place X) → me < length ps → get_elem? ps me ≡ some v → tickets_in v ≡ 1 → tickets_in w ≡ 1 → ticket_of w ≡ ticket_of v
      → Stands q.next q.now q.owner me w → Queue t s (set ps me w)
  stays_in me v w inside at one one' same stands =
      let sum = total_set tickets_in ps me v w at in
      record {
        next = q.next;
        now = q.now;
        owner = q.owner;
        ticket_is = q.ticket_is;
        serving_is = q.serving_is;
        out = let o = q.out in omega arith;
        held = λ m lo hi. dite (ℕ_discrete (q.owner m) me)
            (λ e. let h = q.held m lo hi in
            let is : h.0 ≡ v = some-injective h.0 v (sym h.1 ∙ (ap (get_elem? ps) e ∙ at)) in
            (w, ap (get_elem? (set ps me w)) e ∙ set_here ps me w inside, one', same ∙ (sym (ap ticket_of is) ∙ h.3)))
            (λ ne. let h = q.held m lo hi in (h.0, set_else ps me (q.owner m) w ne ∙ h.1, h.2, h.3));
        each = moved (Stands q.next q.now q.owner) ps me w stands (λ j p other e. q.each j p e);
      }

  -- the next is served
  pub serves_next : (me n : ℕ) (x : X) → me < length ps → get_elem? ps me ≡ some (Inside n x) → Queue t ((s + 1) % M) (set ps me Outside)
  serves_next me n x inside at =
      let sum = total_set tickets_in ps me (Inside n x) Outside at in
      let mine = q.each me (Inside n x) at in
      record {
        next = q.next;
        now = q.now + 1;
        owner = q.owner;
        ticket_is = q.ticket_is;
        serving_is = let e = q.serving_is in omega arith;
        out = let o = q.out in omega arith;
        held = λ m lo hi. let h = q.held m (omega arith) hi in
            (h.0, set_else ps me (q.owner m) Outside (others_ticket m me (Inside n x) at (omega arith) hi (λ z e. let a = mine.0 in omega arith)) ∙ h.1, h.2, h.3);
        each = moved (Stands q.next (q.now + 1) q.owner) ps me Outside tt (λ j p other e. keeps mine j p other (q.each j p e));
      }
    where
      keeps : Stands q.next q.now q.owner me (Inside n x) → (j : ℕ) (p : Place X) → j ≢ me → Stands q.next q.now q.owner j p → Stands q.next (q.now + 1) q.owner j p
      keeps mine j Outside other k = tt
      keeps mine j (Waits m) other k =
          let lo = k.0 in let ne : m ≢ q.now = λ e. other (sym k.2 ∙ (ap q.owner (e ∙ sym mine.0) ∙ mine.2)) in (omega arith, k.1, k.2)
      keeps mine j (Inside m y) other k = absurd (other (sym k.2 ∙ (ap q.owner (k.0 ∙ sym mine.0) ∙ mine.2)))

  pub seat_more : Queue t s (ps ++ Outside ∷ [])
  seat_more =
      let sum = total_append tickets_in ps (Outside ∷ []) in
      record {
        next = q.next;
        now = q.now;
        owner = q.owner;
        ticket_is = q.ticket_is;
        serving_is = q.serving_is;
        out = let o = q.out in omega arith;
        held = λ m lo hi. let h = q.held m lo hi in (h.0, at_longer ps (Outside ∷ []) (q.owner m) h.0 h.1, h.2, h.3);
        each = λ j p e. ⊎_elim (λ (u : get_elem? ps j ≡ some p). q.each j p u) (λ (u : Outside ≡ p). subst (Stands q.next q.now q.owner j) u tt) (at_snoc ps Outside p j e);
      }

pub at_length : {X : Type 0} (xs : List X) (i : ℕ) (x : X) → get_elem? xs i ≡ some x → i < length xs
at_length [] i x e = absurd (some-ne-none x (sym e))
at_length (y ∷ xs) zero x e = omega arith
at_length (y ∷ xs) (suc i) x e = let r = at_length xs i x e in omega arith

module _ {X S : Type 0} (t s : ℕ) (value : S) (slot : maybe.Option (Option S)) (ps : List (Place X)) (l : Lock t s value slot ps) where
  -- the lock where as many are inside
  same_home : (ps' : List (Place X)) → total is_inside ps' ≡ total is_inside ps → ((slot ≡ some (Some value)) × (total is_inside ps' ≡ 0)) ⊎ ((slot ≡ none) × (total is_inside ps' ≡ 1))
  same_home ps' same = ⊎_elim (λ (h : (slot ≡ some (Some value)) × (total is_inside ps ≡ 0)). inl (h.0, same ∙ h.1)) (λ (h : (slot ≡ none) × (total is_inside ps ≡ 1)). inr (h.0, same ∙ h.1)) l.home

  -- a seat draws a ticket
  pub lock_draws : (me : ℕ) → get_elem? ps me ≡ some Outside → Lock ((t + 1) % M) s value slot (set ps me (Waits l.queue.next))
  lock_draws me at =
      let sum = total_set is_inside ps me Outside (Waits l.queue.next) at in
      record {
        queue = draws_ticket t s ps l.queue me (at_length ps me Outside at) at;
        home = same_home (set ps me (Waits l.queue.next)) (omega arith);
      }

  -- a seat that is served finds the value at home, and is inside
  pub lock_served : (me n : ℕ) → get_elem? ps me ≡ some (Waits n) → total tickets_in ps < M → s ≡ n % M
      → (slot ≡ some (Some value)) × ((x : X) → Lock t s value none (set ps me (Inside n x)))
  lock_served me n at few found =
      let here = is_served t s ps l.queue me n at few found in
      let nobody = nobody_inside t s ps l.queue me n at here in
      let stands = l.queue.each me (Waits n) at in
      ⊎_elim (λ (h : (slot ≡ some (Some value)) × (total is_inside ps ≡ 0)). (
        h.0,
        λ x. let sum = total_set is_inside ps me (Waits n) (Inside n x) at in record {
          queue = stays_in t s ps l.queue me (Waits n) (Inside n x) (at_length ps me (Waits n) at) at refl refl refl (let b = stands.1 in (here, omega arith, stands.2));
          home = inr (refl, omega arith);
        },
      ))
      (λ (h : (slot ≡ none) × (total is_inside ps ≡ 1)). let one = h.1 in absurd (omega arith)) l.home

  -- while a seat is inside, the value is out
  pub lock_away : (me n : ℕ) (x : X) → get_elem? ps me ≡ some (Inside n x) → (slot ≡ none) × (total is_inside ps ≡ 1)
  lock_away me n x at = ⊎_elim (λ (h : (slot ≡ some (Some value)) × (total is_inside ps ≡ 0)). let one = total_at is_inside ps me (Inside n x) at in let none_ = h.1 in absurd (omega arith))
      (λ (h : (slot ≡ none) × (total is_inside ps ≡ 1)). h) l.home

  -- nobody else is inside
  pub lock_alone : (me n : ℕ) (x : X) (j : ℕ) (p : Place X) → get_elem? ps me ≡ some (Inside n x) → j ≢ me → get_elem? ps j ≡ some p → is_inside p ≡ 0
  lock_alone me n x j p at other at' =
      let two = total_two is_inside ps me j (Inside n x) p (λ e. other (sym e)) at at' in let one = (lock_away me n x at).1 in omega arith

  -- the seat that is inside says what the value is
  pub lock_changes : (me n : ℕ) (x y : X) (value' : S) → get_elem? ps me ≡ some (Inside n x) → Lock t s value' slot (set ps me (Inside n y))
  lock_changes me n x y value' at =
      let away = lock_away me n x at in
      let sum = total_set is_inside ps me (Inside n x) (Inside n y) at in
      record {
        queue = stays_in t s ps l.queue me (Inside n x) (Inside n y) (at_length ps me (Inside n x) at) at refl refl refl (l.queue.each me (Inside n x) at);
        home = inr (away.0, (let one = away.1 in omega arith));
      }

  -- it gives the value back, and the next is served
  pub lock_serves : (me n : ℕ) (x : X) → get_elem? ps me ≡ some (Inside n x) → Lock t ((s + 1) % M) value (some (Some value)) (set ps me Outside)
  lock_serves me n x at =
      let away = lock_away me n x at in
      let sum = total_set is_inside ps me (Inside n x) Outside at in
      record {
        queue = serves_next t s ps l.queue me n x (at_length ps me (Inside n x) at) at;
        home = inl (refl, (let one = away.1 in omega arith));
      }

  -- a new seat, outside
  pub lock_more : Lock t s value slot (ps ++ Outside ∷ [])
  lock_more =
      let sum = total_append is_inside ps (Outside ∷ []) in
      record {
        queue = seat_more t s ps l.queue;
        home = same_home (ps ++ Outside ∷ []) (omega arith);
      }
