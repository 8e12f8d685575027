-- A lock as plain data: its two words, its slot, and where each seat stands at it.
use Rattle.std.specs.Prelude.{◌≡◌, ◌⊎◌, ℕ, ◌+◌, ◌%◌, ◌<◌, ◌≤◌, List, [], ◌∷◌, Option, Some}
use mathlib.Core.Option.{some, none}
use mathlib.Core.Option as maybe
use lib.ListN.{get_elem?}
use Rattle.turn.specs.declared.view.Place.{Place}
use Rattle.turn.specs.declared.view.Place.TheVariants.{Outside, Waits, Inside}

-- f of each, added up
abbrev pub total : {X : Type 0} → (X → ℕ) → List X → ℕ
total f [] = 0
total f (x ∷ xs) = f x + total f xs

module _ {X : Type 0} where
  -- 1 where a seat has a ticket
  abbrev pub tickets_in : Place X → ℕ
  tickets_in Outside = 0
  tickets_in (Waits n) = 1
  tickets_in (Inside n x) = 1

  abbrev pub ticket_of : Place X → ℕ
  ticket_of Outside = 0
  ticket_of (Waits n) = n
  ticket_of (Inside n x) = n

  -- 1 where a seat is inside
  abbrev pub is_inside : Place X → ℕ
  is_inside Outside = 0
  is_inside (Waits n) = 0
  is_inside (Inside n x) = 1

  -- Where the seat i stands, in a queue whose tickets from `now` on, up to `next`, are out
  abbrev pub Stands : ℕ → ℕ → (ℕ → ℕ) → ℕ → Place X → Type 0
  Stands next now owner i Outside = Unit {0}
  Stands next now owner i (Waits n) = (now ≤ n) × (n < next) × (owner n ≡ i)
  Stands next now owner i (Inside n x) = (n ≡ now) × (now < next) × (owner n ≡ i)

  -- The two words of a lock, and its seats. Tickets count on without end; the words have them modulo 2 ^ 64.
  pub record Queue (ticket serving : ℕ) (places : List (Place X)) : Type 0 where
    pub next : ℕ
    pub now : ℕ
    pub owner : ℕ → ℕ
    pub ticket_is : ticket ≡ next % 18446744073709551616
    pub serving_is : serving ≡ now % 18446744073709551616
    pub out : now + total tickets_in places ≡ next
    pub held : (n : ℕ) → now ≤ n → n < next → (p : Place X) × (get_elem? places (owner n) ≡ some p) × (tickets_in p ≡ 1)
        × (ticket_of p ≡ n)
    pub each : (i : ℕ) (p : Place X) → get_elem? places i ≡ some p → Stands next now owner i p

  -- a lock whose value is at home while nobody is inside, and else out with the one that is inside
  pub record Lock {S : Type 0} (ticket serving : ℕ) (value : S) (slot : maybe.Option (Option S))
      (places : List (Place X)) : Type 0 where
    pub queue : Queue ticket serving places
    pub home : ((slot ≡ some (Some value)) × (total is_inside places ≡ 0))
        ⊎ ((slot ≡ none) × (total is_inside places ≡ 1))
