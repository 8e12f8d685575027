use Rattle.std.proofs.Common.{rules}
use Rattle.retro.proofs.Table.{hyphened}
use Rattle.retro.proofs.words.command_of.Goals as goal

pub returns-then-not-are_plain-clause-given : goal.returns-then-not-are_plain-clause-given
returns-then-not-are_plain-clause-given c = hyphened c.args.words.now (search rules)
