-- What sources and sinks do to the bytes that are left and that are held, where they are told.
use Rattle.std.specs.Prelude.{◌≡◌, ◌≤◌, ℕ, List, [], ◌++◌, length, take, Option}
use Rattle.std.specs.Option.{option_map}

-- the first n bytes of `out` are the next of these, and none only where these are at their end
abbrev pub AreNext : ℕ → List ℕ → List ℕ → Type 0
AreNext n out bytes = (n ≤ length bytes) × (take n out ≡ take n bytes) × (n ≡ 0 → bytes ≡ [])

-- what is held, where it is told, and then these bytes
abbrev pub added : Option (List ℕ) → List ℕ → Option (List ℕ)
added held bytes = option_map (λ front. front ++ bytes) held
