use Rattle.std.proofs.Common.{Ok, ap, sym, arith}
use Rattle.pager.specs.Draft.{drafted}
use Rattle.pager.specs.Pages.{Pages}
use Rattle.tree_index.proofs.index.TreeIndexIndex.make_in.Goals as goal

pub returns-clause-made : goal.returns-clause-made
returns-clause-made g c = λ base shown told.
    let root = c.in_ok-root.root in
    let after : Pages = drafted shown c.take.new.draft.list in
    let stored = rw c.new.ensures at (c.in_ok-store.ensures.drafted shown) in
    ((root, after), (c.in_ok-root.ensures.taken base shown told, omega arith), ap (λ (p : Pages). Ok (root, p)) (sym stored))
