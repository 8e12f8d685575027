use Rattle.std.proofs.Common.{length, ◌-◌, ◌≡◌, ◌≤◌, take}
use Rattle.feeds.specs.Feeds.{added}
use Rattle.feeds.proofs.sink.put_all.Given as goal

abbrev pub invariant-puts : goal.invariant-puts
invariant-puts g l = record {
  within : l.place ≤ length l.bytes;
  holds : g.K.Sink.held l.sink ≡ added (g.K.Sink.held l.fn.sink) (take l.place l.bytes);
  steady : g.K.Sink.faults l.sink ≡ g.K.Sink.faults l.fn.sink;
}

abbrev pub decreases-puts : goal.decreases-puts
decreases-puts g l = length l.bytes - l.place
