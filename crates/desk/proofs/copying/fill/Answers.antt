use Rattle.std.proofs.Common.{◌∙◌, List, ap}
use Rattle.std.specs.Prelude.{min}
use Rattle.retro_base.specs.declared.limits.TheConstants.{BATCH}
use Rattle.history.specs.declared.writes.PageImage.{PageImage}
use Rattle.race_model.specs.Vault.{Batch}
use Rattle.desk.proofs.Told.{filled}
use Rattle.desk.proofs.copying.fill.Goals as goal

pub returns : goal.returns
returns c =
    c.loop-place.invariant
    ∙ ap (λ (l : List PageImage). let b : Batch = record { first = c.args.batch.now.first; low = c.args.batch.now.low; images = l } in b)
    (filled c.loop-place.place c.min-place-end.result BATCH c.args.queue.now.images (c.min-place-end.ensures ∙ ap (λ n. min n 64) c.len.ensures) c.loop-place-test.false c.loop-place.auto.place-end)
