use Rattle.session.specs.Held.{held}
use Rattle.session.proofs.ItemReplies.{results_replied}
use Rattle.session.proofs.items.reply_of_results.Goals as goal

pub returns : goal.returns
returns c = results_replied c.results_asked-answered.result c.args.query.now (held c.args.results.now) c.reply_of.result c.results_asked-answered.ensures c.reply_of.ensures
