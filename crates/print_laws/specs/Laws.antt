-- What is printed is read back.
use Rattle.std.specs.Prelude.{◌≡◌, ◌↔◌, ℕ, List}
use Rattle.sql_parts.specs.declared.parsed.Parsed.{Parsed}
use Rattle.sql_text.specs.Line.{HasLimits, Says, Spells}
use Rattle.print_laws.specs.Printed.{printed}
use Rattle.print_laws.specs.Spelt.{IsSpellable, line_of}

-- the tokens of what is within the limits say it, and nothing else
abbrev pub PrintedIsRead : Type 0
PrintedIsRead = (p : Parsed) → HasLimits p → Says (printed p) p × ((q : Parsed) → Says (printed p) q → q ≡ p)

-- so does its line, where bytes spell these tokens
abbrev pub LineIsRead : Type 0
LineIsRead = (p : Parsed) → HasLimits p → IsSpellable p → Spells (line_of p) p
    × ((q : Parsed) → Spells (line_of p) q → q ≡ p)

-- and no line says anything else
abbrev pub LinesSayNoMore : Type 0
LinesSayNoMore = (p : Parsed) → ((line : List ℕ) × Spells line p) ↔ (HasLimits p × IsSpellable p)
