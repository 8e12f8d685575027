use Rattle.std.proofs.Common.{◌≡◌, ◌+◌, ◌≤◌, ◌++◌, drop}
use Rattle.session.specs.Visible.{visible_text}
use Rattle.session.proofs.shown.write_visible.Given as goal

abbrev pub invariant-loop-line : goal.invariant-loop-line
invariant-loop-line l =
    (l.behind ≤ l.newest + l.line-index) × (l.out.items ++ visible_text l.plan l.behind (drop l.line-index l.journal) ≡ l.initial.out.items ++ visible_text l.plan l.newest l.journal)
