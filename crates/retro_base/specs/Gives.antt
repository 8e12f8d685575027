-- The one form of contract for calls that may be refused.
use Rattle.std.specs.Prelude.{◌≡◌, ◌⊎◌, Result, Ok, Err}
use Rattle.retro_base.specs.declared.refusal.Refusal.{Refusal}
use Rattle.retro_base.specs.declared.refusal.Refusal.TheVariants.{OutOfMemory}

infixl 10 ◌>>=◌
-- goes on with the value, if there is one
abbrev pub ◌>>=◌ : {A B : Type 0} → Result A Refusal → (A → Result B Refusal) → Result B Refusal
(Ok x) >>= f = f x
(Err e) >>= f = Err e

-- an answer, seen by `view`, is what the definition gives, unless memory ran out
abbrev pub Gives : {X Y : Type 0} → (X → Y) → Result X Refusal → Result Y Refusal → Type 0
Gives view (Ok x) definition = definition ≡ Ok (view x)
Gives view (Err e) definition = (e ≡ OutOfMemory) ⊎ (definition ≡ Err e)
