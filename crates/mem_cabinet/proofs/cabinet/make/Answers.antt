use Rattle.std.proofs.Common.{◌∙◌, ap}
use Rattle.mem_cabinet.specs.Shelves.{blank}
use Rattle.mem_cabinet.proofs.Shelved.{made_so}
use Rattle.mem_cabinet.proofs.cabinet.make.Goals as goal

pub returns : goal.returns
returns c =
    made_so c.args.sizes _ _ _ _ (c.in_ok-blank.ensures ∙ ap blank c.log_bytes.ensures) (c.in_ok-blank-2.ensures ∙ ap blank c.pages_bytes.ensures) (c.in_ok-blank-3.ensures ∙ ap blank c.pagelog_bytes.ensures) (c.in_ok-blank-4.ensures ∙ ap blank c.maplog_bytes.ensures)
