use Rattle.std.proofs.Common.{◌∙◌}
use Rattle.plain_run.proofs.seats.number_at.Goals as goal

pub returns : goal.returns
returns g c =
    let looked = c.in_ok-look.ensures.gives in
    let past = c.in_ok-past.ensures.gives _ looked.1.work_is in
    let ended = c.unlook.ensures.gives _ past.0.work_is in
    record {
      idle = ended.work_is;
      session = ended.moves.session ∙ past.0.moves.session ∙ looked.1.moves.session;
      opened = ended.moves.opened ∙ past.0.moves.opened ∙ looked.1.moves.opened;
    }
