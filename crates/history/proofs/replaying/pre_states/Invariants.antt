use Rattle.std.proofs.Common.{◌≡◌, ◌++◌, drop, map}
use Rattle.history.specs.History.{capturing, before_write}
use Rattle.history.specs.Replayed.{page_in}
use Rattle.history.proofs.replaying.pre_states.Given as goal

abbrev pub invariant-loop-write : goal.invariant-loop-write
invariant-loop-write l =
    l.images.items ++ map (before_write (page_in l.pages)) (capturing l.base (drop l.write-index l.writes)) ≡ map (before_write (page_in l.pages)) (capturing l.base l.writes)
