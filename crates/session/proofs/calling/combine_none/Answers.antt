use Rattle.session.proofs.Conclusions.{none_concludes}
use Rattle.session.proofs.calling.combine_none.Goals as goal

pub returns : goal.returns
returns g c = λ view. rw c.ended.ensures (none_concludes c.args.query.now c.args.combination.now view c.combine.result c.combine.ensures.told)
