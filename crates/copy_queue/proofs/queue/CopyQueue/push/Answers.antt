use Rattle.std.proofs.Common.{◌∙◌, ◌+◌, [], ◌∷◌, ◌++◌, length, ap, arith, sym, subst}
use Rattle.history.specs.declared.writes.PageImage.{PageImage}
use Rattle.copy_queue.proofs.Places.{index_push}
use Rattle.copy_queue.specs.Pending.{IsIndex, Pending}
use Rattle.std.specs.Prelude.{List}
use Rattle.copy_queue.proofs.queue.CopyQueue.push.Goals as goal

pub invariant_of-self-2 : goal.invariant_of-self-2
invariant_of-self-2 c =
    let first = c.self.inside.first in
    let number = first + c.len.result in
    let items = c.in-Ok.ensures.items ∙ ap (λ (l : List PageImage). l ++ c.args.image ∷ []) c.reserve.ensures.items in
    subst (λ (l : List PageImage). IsIndex first l c.insert.new.self) (sym items)
    (index_push first c.self.inside.places c.insert.new.self c.self.inside.images.items c.args.image number c.self.invariant (omega (arith, c.len.ensures, ap length c.reserve.ensures.items)) c.in_ok-insert.ensures.updates (omega (arith, c.requires, ap (λ (p : Pending). p.first + length p.images) c.self.view_is, c.len.ensures, ap length c.reserve.ensures.items)))
