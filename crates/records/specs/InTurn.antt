-- Items whose bodies are read in turn.
use Rattle.std.specs.Prelude.{ℕ, List, [], ◌∷◌}
use Rattle.gate_log.specs.declared.unread.Unread.{Unread}
use Rattle.gate_log.specs.declared.unread.Unread.TheVariants.{OutOfMemory, Broken}
use Rattle.records.specs.declared.decoding.DecodeError.{DecodeError}
use Rattle.records.specs.declared.decoding.DecodeError.TheVariants as decoding

-- Each body is that of an item that is right at its place, and the item leads to the place of the next.
abbrev pub InTurn : {P I : Type 0} → (P → List ℕ → I → Type 0) → (P → I → P) → P → List (List ℕ) → List I → Type 0
InTurn Is after place [] [] = Unit {0}
InTurn Is after place (body ∷ bodies) (item ∷ items) =
    Is place body item × InTurn Is after (after place item) bodies items
InTurn Is after place bodies items = ⊥

-- the place behind these items
abbrev pub reached : {P I : Type 0} → (P → I → P) → P → List I → P
reached after place [] = place
reached after place (item ∷ items) = reached after (after place item) items

-- what is told of a body that is not found behind so many
abbrev pub stopping : DecodeError → ℕ → Unread
stopping decoding.OutOfMemory behind = OutOfMemory
stopping decoding.Malformed behind = Broken behind
