use Rattle.std.proofs.Common.{sym, ◌∙◌}
use Rattle.sql_lexer.proofs.Steps.{bad_first}
use Rattle.sql_lexer.proofs.lexer.front_of.Goals as goal

pub returns-in_default : goal.returns-in_default
returns-in_default c = (
  c.requires,
  bad_first _ c.requires (sym c.is_blank.ensures ∙ c.if-is_blank.false) (sym c.begins_word.ensures ∙ c.if-begins_word.false)
      (sym c.is_ascii_digit.ensures.value ∙ c.if-is_ascii_digit.false) c.if-first-eq-QUOTE.false c.in_default.ensures.none,
)
