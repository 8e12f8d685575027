use Rattle.std.proofs.Common.{◌≡◌, ◌∙◌, Ok, ap, subst, sym}
use Rattle.pager.specs.Draft.{drafted}
use Rattle.pager.specs.Pages.{Pages}
use Rattle.pager.specs.declared.index.Found.{Found}
use Rattle.tree_index.specs.Work.{all_written, edited}
use Rattle.tree_index.proofs.index.add_on.Goals as goal

pub returns-clause-added : goal.returns-clause-added
returns-clause-added g c = λ base shown told.
    let size = c.args.draft.now.size in
    let pages = drafted shown c.args.draft.now.list in
    let mid = drafted shown c.climb_up.new.draft.list in
    let edits = c.in_ok-edits.edits in
    let climbed = subst (λ (e : Found). edited size c.args.root e pages c.args.way.items (Ok (edits, mid))) c.in_ok-entry.ensures (c.in_ok-edits.ensures.edited base shown told) in
    let stored : drafted shown c.store_all.new.draft.list ≡ all_written mid edits = c.in_ok-store_all.ensures.drafted shown ∙ ap (all_written mid) c.as_slice.ensures in
    ((edits, mid), climbed, ap (λ (p : Pages). Ok (tt, p)) (sym stored))
