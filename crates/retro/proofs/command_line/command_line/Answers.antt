use Rattle.std.proofs.Common.{◌∙◌, ap₂}
use Rattle.std.proofs.lemmas.Result.{IfOk-weaker}
use Rattle.clap.specs.Words.{with_subcommand}
use Rattle.retro.proofs.command_line.command_line.Goals as goal

pub returns : goal.returns
returns c =
    let one = c.in_ok-subcommand.ensures.shape c.in_ok-run.ensures.local ∙ ap₂ with_subcommand c.program.ensures c.in_ok-run.ensures.shape in
    let two = c.in_ok-subcommand-2.ensures.shape c.in_ok-show.ensures.local ∙ ap₂ with_subcommand one c.in_ok-show.ensures.shape in
    let three = c.in_ok-subcommand-3.ensures.shape c.in_ok-load.ensures.local ∙ ap₂ with_subcommand two c.in_ok-load.ensures.shape in
    IfOk-weaker c.subcommand-4.result _ _ (λ r h. h.shape c.in_ok-format.ensures.local ∙ ap₂ with_subcommand three c.in_ok-format.ensures.shape) c.subcommand-4.ensures
