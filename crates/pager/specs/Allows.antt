-- What may be answered, step by step: a step allows values and refusals, and the next step goes on with the value.
use Rattle.std.specs.Prelude.{◌≡◌, ◌⊎◌, Bool, true, false, List, [], ◌∷◌, Result, Ok, Err}
use Rattle.retro_base.specs.declared.refusal.Refusal.{Refusal}
use Rattle.pager.specs.Pages.{Pages}

infixl 10 ◌>>=◌
-- what a step allows, and then what the next allows of its value; a refusal of either is the answer
abbrev pub ◌>>=◌ : {A B : Type 0} → (Result A Refusal → Type 0) → (A → Result B Refusal → Type 0) → Result B Refusal
    → Type 0
◌>>=◌ {A} step next (Ok y) = (x : A) × step (Ok x) × next x (Ok y)
◌>>=◌ {A} step next (Err why) = step (Err why) ⊎ ((x : A) × step (Ok x) × next x (Err why))

-- this answer alone
abbrev pub only : {A : Type 0} → Result A Refusal → Result A Refusal → Type 0
only answer other = answer ≡ other

-- the first where the test holds, else the second
abbrev pub either : {A : Type 0} → Bool → (Result A Refusal → Type 0) → (Result A Refusal → Type 0) → Result A Refusal
    → Type 0
either true first second = first
either false first second = second

-- the pages after an edit for each item, each on the pages that the one before it left
abbrev pub in_turn : {A X : Type 0} → (A → Pages → Result (X × Pages) Refusal → Type 0) → List A → Pages
    → Result (Unit {0} × Pages) Refusal → Type 0
in_turn step [] pages = only (Ok (tt, pages))
in_turn step (x ∷ xs) pages = do
  next ← step x pages
  in_turn step xs next.1
