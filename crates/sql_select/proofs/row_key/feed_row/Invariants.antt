use Rattle.std.proofs.Common.{◌≡◌, take, fold}
use Rattle.sql_select.specs.Same.{row_writes}
use Rattle.sql_select.proofs.row_key.feed_row.Given as goal

abbrev pub invariant-loop-value : goal.invariant-loop-value
invariant-loop-value g l = l.state ≡ fold g.H.Hasher.write l.initial.state (row_writes (take l.value-index l.row))
