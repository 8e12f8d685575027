use Rattle.std.proofs.Common.{◌∙◌}
use Rattle.plain_run.proofs.seats.number_now.Goals as goal

pub returns : goal.returns
returns g c =
    let begun = c.in_ok-begin.ensures.gives in
    let read = c.in_ok-read.ensures.gives _ begun.1.work_is in
    let ended = c.rollback.ensures.gives _ read.1.work_is in
    record {
      idle = ended.work_is;
      session = ended.moves.session ∙ read.1.moves.session ∙ begun.1.moves.session;
      opened = ended.moves.opened ∙ read.1.moves.opened ∙ begun.1.moves.opened;
    }
