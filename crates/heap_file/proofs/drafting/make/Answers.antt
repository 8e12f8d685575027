use Rattle.std.proofs.Common.{Ok, ap, sym}
use Rattle.pager.specs.Draft.{drafted}
use Rattle.pager.specs.Pages.{Pages}
use Rattle.heap_file.proofs.drafting.make.Goals as goal

pub returns-clause-made : goal.returns-clause-made
returns-clause-made g c = λ base shown told.
    let after = drafted shown c.take.new.draft.list in
    let page = c.in_ok-page.page in
    ((page, after), c.in_ok-page.ensures.taken base shown told, ap (λ (pages : Pages). Ok (page, pages)) (sym (rw c.new.ensures at (c.in_ok-store.ensures.drafted shown))))
