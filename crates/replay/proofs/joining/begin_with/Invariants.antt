use Rattle.std.proofs.Common.{◌≡◌, drop}
use Rattle.replay.specs.Joined.{begins_with}
use Rattle.replay.proofs.joining.begin_with.Given as goal

abbrev pub invariant-loop-i : goal.invariant-loop-i
invariant-loop-i l = begins_with (drop l.i l.pages) (drop l.i l.captured) ≡ begins_with l.pages l.captured
