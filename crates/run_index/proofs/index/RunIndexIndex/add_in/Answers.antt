use Rattle.std.proofs.Common.{arith}
use Rattle.pager.specs.Draft.{drafted}
use Rattle.pager.specs.Index.{IsFound}
use Rattle.index_page.specs.Entries.{entry_inserted}
use Rattle.index_page.proofs.Ordered.{inserted-one}
use Rattle.index_page.proofs.Packing.{width-least}
use Rattle.index_page.proofs.Placing.{inserted-length}
use Rattle.run_index.specs.Shaping.{inserted-most}
use Rattle.run_index.specs.Work.{added, stored}
use Rattle.run_index.proofs.Walking.{added-there}
use Rattle.pager.proofs.Stops.{allowed_on}
use Rattle.run_index.proofs.index.RunIndexIndex.add_in.Goals as goal

pub store_run-requires-clause-few : goal.store_run-requires-clause-few
store_run-requires-clause-few g c =
    let entries = c.in_ok-met.met.held.entries in
    rw c.in_ok-entries.ensures (omega (arith, inserted-length c.in_ok-copy_of.field-0 entries, width-least entries, c.in_ok-met.ensures.writable.fits))

pub store_run-requires-clause-short : goal.store_run-requires-clause-short
store_run-requires-clause-short g c = λ lawful.
    let entries = c.in_ok-met.met.held.entries in
    let all = rw c.in_ok-entries.ensures at lawful in
    rw c.in_ok-entries.ensures (inserted-most c.in_ok-copy_of.field-0 entries (inserted-one IsFound c.in_ok-copy_of.field-0 entries all) c.in_ok-met.ensures.writable)

pub returns-clause-added : goal.returns-clause-added
returns-clause-added g c = λ base shown told.
    let size = c.args.draft.now.size in
    let pages = drafted shown c.args.draft.now.list in
    let met = c.in_ok-met.met in
    let entry = c.args.entry.now in
    let found = c.in_ok-met.ensures.met base shown (c.store_run.ensures.only_drafts.narrows base shown told) in
    allowed_on (λ (u : Unit {0}). (u, drafted shown c.store_run.new.draft.list)) (stored size pages met.page met.held.link (entry_inserted entry met.held.entries)) (added size c.args.self.now.root entry pages) c.store_run.result
    (added-there size c.args.self.now.root entry pages met found)
    (rw (c.in_ok-entries.ensures, c.in_ok-copy_of.ensures) at (c.store_run.ensures.stored base shown told))
