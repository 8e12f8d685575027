use Rattle.std.proofs.Common.{◌≡◌, ◌++◌}
use Rattle.std.specs.Vec.Iter.{into_iter_items}
use Rattle.sql_grammar.specs.declared.grammar.Rule.TheVariants.{Sentence}
use Rattle.sql_grammar.specs.Machine.{Stands}
use Rattle.sql_text.specs.Places.{tokens_of}
use Rattle.sql_text.proofs.reading.begin.Given as goal

abbrev pub invariant-loop-placed : goal.invariant-loop-placed
invariant-loop-placed l = record {
  left : l.fn.tokens ≡ l.yielded ++ into_iter_items l.placed-iterator;
  stands : Stands Sentence (tokens_of l.yielded) l.machine.expected l.machine.ops;
}
