use Rattle.std.proofs.Common.{◌∙◌, ap, map}
use Rattle.sql_select.proofs.BoundOutputs.{list-means, means}
use Rattle.sql_select.proofs.outputs.BoundList.bind.Goals as goal

pub returns-in_ok-bound-in-Outputs : goal.returns-in_ok-bound-in-Outputs
returns-in_ok-bound-in-Outputs c =
    rw c.in-Outputs.is
    (list-means c.args.scope.now c.args.snapshot c.in_ok-bound-in-Outputs.bound c.in-Outputs.outputs (c.in_ok-bound-in-Outputs.ensures ∙ ap (map (means c.args.scope.now c.args.snapshot)) c.as_slice.ensures))
