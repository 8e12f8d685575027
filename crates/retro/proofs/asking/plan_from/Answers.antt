use Rattle.retro.specs.Seen.{seen}
use Rattle.retro.proofs.Front.{front_asks}
use Rattle.retro.proofs.asking.plan_from.Goals as goal

pub returns-clause-asked : goal.returns-clause-asked
returns-clause-asked g c =
    let s = g.S.Source in
    front_asks c.front_law.ensures (seen s.left s.faults c.args.source.now c.read_front.new.source) c.in-Ok.bytes.items c.plan_in.result
    c.in-Ok.ensures.bytes c.in-Ok.ensures.rest c.in-Ok.ensures.steady (rw c.as_slice.ensures.value at c.plan_in.ensures.asks) (rw c.as_slice.ensures.value at c.plan_in.ensures.short)
