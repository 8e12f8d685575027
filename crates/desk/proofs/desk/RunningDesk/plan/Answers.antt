use Rattle.std.proofs.Common.{◌∙◌, List, ap, map}
use Rattle.history.specs.declared.writes.PageImage.{PageImage}
use Rattle.history.specs.History.{before_write, capturing}
use Rattle.desk.proofs.desk.RunningDesk.plan.Goals as goal

pub returns-clause-bytes : goal.returns-clause-bytes
returns-clause-bytes g c = λ pages device loose dirty is told.
    c.in_ok-captures.ensures.bytes pages device loose dirty is told ∙ ap (λ (l : List PageImage). map (before_write pages) (capturing c.args.self.now.base l)) c.writes_of.ensures
