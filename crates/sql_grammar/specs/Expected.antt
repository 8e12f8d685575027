-- The symbols that a machine expects, by what is left of each right side.
use Rattle.std.specs.Prelude.{List, ◌∷◌, flat_map, reverse}
use Rattle.sql_grammar.specs.declared.grammar.Symbol.{Symbol}
use Rattle.sql_grammar.specs.declared.machine.Left.{Left}

-- what is left of the right sides, the innermost at the end: its symbols first
abbrev pub left : List Left → List Symbol
left outer = flat_map (λ l. l.next ∷ l.rest.now) (reverse outer)
