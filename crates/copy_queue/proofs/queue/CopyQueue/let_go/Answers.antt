use Rattle.std.proofs.Common.{List, subst}
use Rattle.history.specs.declared.writes.PageImage.{PageImage}
use Rattle.copy_queue.specs.Pending.{IsIndex}
use Rattle.copy_queue.proofs.Places.{index_front}
use Rattle.copy_queue.proofs.queue.CopyQueue.let_go.Goals as goal

pub invariant_of-self-2 : goal.invariant_of-self-2
invariant_of-self-2 c =
    let first = c.self.inside.first in
    index_front first c.self.inside.places c.remove.new.self c.pop_front.new.self.items c.in-Some.image (subst (λ (l : List PageImage). IsIndex first l c.self.inside.places) c.in-Some.ensures.items c.self.invariant) c.remove.ensures.updates
