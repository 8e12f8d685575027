use Rattle.std.proofs.Common.{List, ◌+◌, arith, subst}
use Rattle.history.specs.declared.writes.PageImage.{PageImage}
use Rattle.copy_queue.specs.Pending.{IsIndex}
use Rattle.copy_queue.proofs.Places.{index_back}
use Rattle.copy_queue.proofs.queue.CopyQueue.take_back.Goals as goal

pub invariant_of-self-2 : goal.invariant_of-self-2
invariant_of-self-2 c =
    let first = c.self.inside.first in
    index_back first c.self.inside.places c.remove.new.self c.pop_back.new.self.items c.in-Some.image (first + c.len.result) (subst (λ (l : List PageImage). IsIndex first l c.self.inside.places) c.in-Some.ensures.items c.self.invariant) (omega (arith, c.len.ensures)) c.remove.ensures.updates
