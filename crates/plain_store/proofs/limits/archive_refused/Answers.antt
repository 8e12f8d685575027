use Rattle.std.proofs.Common.{arith}
use Rattle.plain_store.proofs.Commits.{capturing_shorter}
use Rattle.plain_store.proofs.limits.archive_refused.Goals as goal

pub overflow_add-captures : goal.overflow_add-captures
overflow_add-captures c = omega (arith, c.requires.captures, c.requires.writes, capturing_shorter c.args.base.now c.args.writes.now)
