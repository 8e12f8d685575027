-- Lists of answers, where the first refusal stands.
use Rattle.std.specs.Prelude.{List, [], ◌∷◌, ◌++◌, Result, Ok, Err}
use Rattle.retro_base.specs.Gives.{◌>>=◌}
use Rattle.retro_base.specs.declared.refusal.Refusal.{Refusal}

-- what a function gives of each item, in order
abbrev pub each : {X Y : Type 0} → (X → Result Y Refusal) → List X → Result (List Y) Refusal
each f [] = Ok []
each f (x ∷ xs) = do
  y ← f x
  ys ← each f xs
  Ok (y ∷ ys)

-- a list behind a front
abbrev pub onto : {X : Type 0} → List X → Result (List X) Refusal → Result (List X) Refusal
onto front (Ok xs) = Ok (front ++ xs)
onto front (Err why) = Err why
