-- Steps that have one answer.
use Rattle.std.proofs.Common.{◌≡◌, Result, Ok, Err, inl, inr}
use Rattle.retro_base.specs.declared.refusal.Refusal.{Refusal}
use Rattle.pager.specs.Allows.{◌>>=◌}
use Rattle.heap_file.proofs.Ones.{differ}

-- a step that is refused, and the answer
pub ends-there : {A B : Type 0} (m : Result A Refusal → Type 0) (f : A → Result B Refusal → Type 0) (why : Refusal) → ((a : Result A Refusal) → m a → a ≡ Err why) → (b : Result B Refusal) → (m >>= f) b → b ≡ Err why
ends-there m f why one (Ok y) (x, told, h) = differ x why (one (Ok x) told)
ends-there m f why one (Err other) (inl refused) = cc (one (Err other) refused)
ends-there m f why one (Err other) (inr (x, told, h)) = differ x why (one (Ok x) told)
