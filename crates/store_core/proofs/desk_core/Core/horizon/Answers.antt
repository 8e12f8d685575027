use Rattle.std.proofs.Common.{◌∙◌, ap}
use Rattle.history.specs.declared.entry.Base.{Base}
use Rattle.history.specs.Marks.{newest, oldest}
use Rattle.store_core.proofs.Cores.{base_is}
use Rattle.store_core.proofs.desk_core.Core.horizon.Goals as goal

pub returns : goal.returns
returns g c = λ opening plain is. c.horizon.ensures ∙ ap (λ (b : Base). (oldest b.marks, newest b.marks)) (base_is g.D.Disk.is_honest g.D.Disk.state opening c.args.self.now plain is)
