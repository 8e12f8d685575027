use Rattle.std.proofs.Common.{rules, arith}
use Rattle.retro.proofs.Loaded.{cut_full, cut_wanting}
use Rattle.retro.proofs.summary.cut_line.Goals as goal

pub returns-then-lines : goal.returns-then-lines
returns-then-lines c = cut_full c.args.lines (search rules)

pub returns-else-lines : goal.returns-else-lines
returns-else-lines c = cut_wanting c.args.lines (search rules)
