use Rattle.std.proofs.Common.{sym, arith}
use Rattle.replay.proofs.Fronts.{begins-short}
use Rattle.replay.proofs.joining.begin_with.Goals as goal

pub returns-then-captured-pages : goal.returns-then-captured-pages
returns-then-captured-pages c = sym (begins-short c.args.pages.now c.args.captured.now (omega arith))
