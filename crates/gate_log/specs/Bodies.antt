-- Lists of bodies, and what they stand for.
use Rattle.std.specs.Prelude.{◌≡◌, ◌⊎◌, ◌++◌, ℕ, List, [], ◌∷◌, map, take, Vec, Result, MatchResult}
use Rattle.std.specs.declared.alloc.Global.{Global}
use Rattle.gate_log.specs.declared.unread.Unread.{Unread}
use Rattle.gate_log.specs.declared.unread.Unread.TheVariants.{OutOfMemory, Broken}

-- the bytes of each body
abbrev pub bodies_of : List (Vec ℕ Global) → List (List ℕ)
bodies_of vecs = map (λ vec. vec.items) vecs

-- The list breaks behind this front of it: it stands for nothing, while the front stands for something or is empty, and
-- no longer with one body more.
pub record BreaksBehind {X : Type 0} (StandsFor : List (List ℕ) → X → Type 0) (bodies front : List (List ℕ))
    : Type 0 where
  pub rest : List (List ℕ)
  pub split : bodies ≡ front ++ rest
  pub broken : (x : X) → StandsFor bodies x → ⊥
  pub sound : (front ≡ []) ⊎ ((x : X) × StandsFor front x)
  pub at_once : (body : List ℕ) (more : List (List ℕ)) → rest ≡ body ∷ more → (x : X) → StandsFor (front ++ body ∷ []) x
      → ⊥

-- the list breaks behind as many bodies as are told, unless memory ran out
abbrev pub BreaksAs : {X : Type 0} → (List (List ℕ) → X → Type 0) → List (List ℕ) → Unread → Type 0
BreaksAs StandsFor bodies OutOfMemory = Unit {0}
BreaksAs StandsFor bodies (Broken behind) = BreaksBehind StandsFor bodies (take behind bodies)

-- a list of bodies is read: it stands for the value, or breaks
abbrev pub Reads : {X : Type 0} → (List (List ℕ) → X → Type 0) → List (List ℕ) → Result X Unread → Type 0
Reads StandsFor bodies result = MatchResult result (StandsFor bodies) (BreaksAs StandsFor bodies)
