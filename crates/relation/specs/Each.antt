-- A step for each item of a list, in order, as far as no refusal comes.
use Rattle.std.specs.Prelude.{◌≡◌, ◌⊎◌, ℕ, List, [], ◌∷◌, Option, Result, Ok, Err}
use Rattle.std.specs.List.{cons_option}
use Rattle.retro_base.specs.declared.refusal.Refusal.{Refusal}
use Rattle.retro_base.specs.declared.refusal.Refusal.TheVariants.{OutOfMemory}
use Rattle.pager.specs.Pages.{Pages, broken}
use Rattle.pager.specs.Allows.{◌>>=◌, only}

-- what is made of each item, or the refusal of the first item of which nothing is made
abbrev pub each : {A B : Type 0} → (A → Result B Refusal → Type 0) → List A → Result (List B) Refusal → Type 0
each step [] = only (Ok [])
each step (x ∷ xs) = do
  y ← step x
  ys ← each step xs
  only (Ok (y ∷ ys))

-- the pages after an edit for each item, each on the pages that the one before it left, with what each edit answers
abbrev pub each_in_turn : {A B : Type 0} → (A → Pages → Result (B × Pages) Refusal → Type 0) → List A → Pages
    → Result (List B × Pages) Refusal → Type 0
each_in_turn step [] pages = only (Ok ([], pages))
each_in_turn step (x ∷ xs) pages = do
  next ← step x pages
  rest ← each_in_turn step xs next.1
  only (Ok (next.0 ∷ rest.0, rest.1))

-- what is made of those items of which something is, or the first refusal
abbrev pub each_some : {A B : Type 0} → (A → Result (Option B) Refusal → Type 0) → List A → Result (List B) Refusal
    → Type 0
each_some step [] = only (Ok [])
each_some step (x ∷ xs) = do
  y ← step x
  ys ← each_some step xs
  only (Ok (cons_option y ys))

-- an answer is one that the definition allows, and a refusal tells a broken page, unless memory ran out
abbrev pub TellsPage : {X Y : Type 0} → (X → Y) → (Result Y Refusal → Type 0) → Result X Refusal → Type 0
TellsPage view allows (Ok x) = allows (Ok (view x))
TellsPage view allows (Err why) = (why ≡ OutOfMemory) ⊎ (allows (Err why) × ((page : ℕ) × (why ≡ broken page)))
