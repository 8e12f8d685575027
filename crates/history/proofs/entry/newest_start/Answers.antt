use Rattle.std.proofs.Common.{◌∙◌, ap, sym, arith}
use Rattle.history.specs.declared.entry.Mark.{Mark}
use Rattle.history.proofs.MarkLaws.{newest_start_last}
use Rattle.history.proofs.entry.newest_start.Goals as goal

pub returns-in-len1-up : goal.returns-in-len1-up
returns-in-len1-up c = ap (λ (m : Mark). m.start) c.last-item.is ∙ sym (newest_start_last c.args.marks.now c.last-item.result (omega arith))
