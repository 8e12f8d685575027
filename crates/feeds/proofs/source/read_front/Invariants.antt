use Rattle.std.proofs.Common.{◌≡◌, ◌≤◌, ◌-◌, IfSome, take, drop, vec_len}
use Rattle.std.specs.Option.{option_map}
use Rattle.feeds.proofs.source.read_front.Given as goal

abbrev pub invariant-pieces : goal.invariant-pieces
invariant-pieces g l = record {
  within : vec_len l.read ≤ l.limit;
  front : IfSome (g.S.Source.left l.fn.source) (λ bytes. l.read.items ≡ take (vec_len l.read) bytes);
  rest : g.S.Source.left l.source ≡ option_map (drop (vec_len l.read)) (g.S.Source.left l.fn.source);
  steady : g.S.Source.faults l.source ≡ g.S.Source.faults l.fn.source;
}

abbrev pub decreases-pieces : goal.decreases-pieces
decreases-pieces g l = l.limit - vec_len l.read
