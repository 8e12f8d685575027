-- What a line says can be printed.
use Rattle.std.proofs.Common.{◌∙◌, ℕ, List, sym, subst}
use Rattle.sql_parts.specs.declared.parsed.Parsed.{Parsed}
use Rattle.sql_text.specs.Line.{HasLimits, Spells}
use Rattle.sql_text.specs.Places.{tokens_of}
use Rattle.sql_text.proofs.Meaning.{says}
use Rattle.sql_parts.proofs.Common.{some_injective}
use Rattle.print_laws.specs.Spelt.{IsSpellable}
use Rattle.print_laws.proofs.Derived.{lexed_spelt, sentence_fits}
use Rattle.print_laws.proofs.Drafts.{built_fits}
use Rattle.print_laws.proofs.Writers.{printed_fits}

pub said_has_limits : (line : List ℕ) (p : Parsed) → Spells line p → HasLimits p
said_has_limits line p s =
    let m = says (tokens_of s.0) s.2.0 s.2.1 in
    subst HasLimits (some_injective (sym m.1 ∙ s.2.2)) m.2

pub said_is_spellable : (line : List ℕ) (p : Parsed) → Spells line p → IsSpellable p
said_is_spellable line p s = printed_fits p (built_fits s.2.0 p (sentence_fits s.2.1 (lexed_spelt s.1)) s.2.2)
