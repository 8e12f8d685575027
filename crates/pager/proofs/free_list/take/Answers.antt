use Rattle.std.proofs.Common.{refl}
use Rattle.pager.proofs.free_list.take.Goals as goal

pub returns-clause-taken : goal.returns-clause-taken
returns-clause-taken g c = λ base shown told.
    let root = c.in_ok-root.ensures.read base shown (c.in_ok-page.ensures.only_reads.narrows base shown told) in
    let next = c.in_ok-page.ensures.read base shown told in
    rw (root, next, c.in_ok-put.ensures.drafted shown, c.page.ensures) refl
