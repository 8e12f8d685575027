use Rattle.std.proofs.Common.{rules}
use Rattle.retro.proofs.Numbers.{number_is_read}
use Rattle.retro.proofs.words.number_of.Goals as goal

pub returns : goal.returns
returns c = search (rules, number_is_read c.args.word.now _ (search rules) c.parse.ensures.value.0)
