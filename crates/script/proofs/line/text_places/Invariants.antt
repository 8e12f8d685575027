use Rattle.std.proofs.Common.{◌≡◌, ◌++◌, drop}
use Rattle.script.specs.Line.{text_places}
use Rattle.script.proofs.line.text_places.Given as goal

abbrev pub invariant-loop-placed : goal.invariant-loop-placed
invariant-loop-placed l = l.places ++ text_places (drop l.placed-index l.tokens) ≡ text_places l.tokens
