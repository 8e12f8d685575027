use Rattle.std.proofs.Common.{◌≡◌, ◌+◌, ◌++◌, drop}
use Rattle.session.specs.Replies.{kept_by_place, phases_text}
use Rattle.session.proofs.printing.write_phases.Given as goal

abbrev pub invariant-loop-index : goal.invariant-loop-index
invariant-loop-index l =
    l.out.items ++ phases_text l.lines (kept_by_place l.kept) (l.index + 1) (drop l.index l.plan) ≡ l.initial.out.items ++ phases_text l.lines (kept_by_place l.kept) 1 l.plan
