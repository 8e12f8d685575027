use Rattle.tables.proofs.Rewriting.{becomes_back, becomes_front}
use Rattle.tables.proofs.fates.settle.Goals as goal

pub returns-in-Becomes-clause-front : goal.returns-in-Becomes-clause-front
returns-in-Becomes-clause-front c =
    rw (c.swap-in-Becomes.ensures.items, c.in-Becomes.is)
    (becomes_front c.args.rows.now.items c.args.kept c.args.place c.requires.order c.requires.within c.index_mut.result.now c.index_mut.ensures.value c.in-Becomes.values)

pub returns-in-Becomes-clause-back : goal.returns-in-Becomes-clause-back
returns-in-Becomes-clause-back c =
    rw c.swap-in-Becomes.ensures.items
    (becomes_back c.args.rows.now.items c.args.kept c.args.place c.requires.order c.requires.within c.index_mut.result.now c.index_mut.ensures.value c.in-Becomes.values)
