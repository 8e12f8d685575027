use Rattle.std.proofs.Common.{◌≡◌, ◌-◌, ◌≤◌, ◌∷◌, length, take}
use Rattle.std.specs.List.{AllByRecursion}
use Rattle.values.specs.Text.{IsPrintable}
use Rattle.sql_lexer.specs.Token.{quote, doubled}
use Rattle.sql_lexer.proofs.lexer.text_at.Given as goal

abbrev pub invariant-loop-end : goal.invariant-loop-end
invariant-loop-end l = record {
  begun : 1 ≤ l.end;
  within : l.end ≤ length l.bytes;
  so_far : take l.end l.bytes ≡ quote ∷ doubled l.text.items;
  printable : AllByRecursion IsPrintable l.text.items;
}

abbrev pub decreases-loop-end : goal.decreases-loop-end
decreases-loop-end l = length l.bytes - l.end
