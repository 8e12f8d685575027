use Rattle.std.proofs.Common.{◌≡◌, Some, arith, false}
use Rattle.std.proofs.lemmas.Bool.{lt-leb}
use Rattle.pager.specs.Draft.{drafted}
use Rattle.pager.specs.Index.{IsFound}
use Rattle.index_page.specs.Entries.{entry_inserted}
use Rattle.index_page.specs.IndexPage.{have_room, width}
use Rattle.index_page.proofs.Ordered.{inserted-one}
use Rattle.index_page.proofs.Packing.{entry-short, width-least}
use Rattle.index_page.proofs.Placing.{inserted-length, inserted-width}
use Rattle.tree_index.specs.declared.climb.Climb.{Climb}
use Rattle.tree_index.specs.Work.{placed, split, with_entries}
use Rattle.tree_index.proofs.Climbed.{placed-full}
use Rattle.pager.proofs.Stops.{allowed_on}
use Rattle.tree_index.proofs.climb.place.Goals as goal

pub width-is_full-requires : goal.width-is_full-requires
width-is_full-requires g c =
    let entries = c.args.met.held.entries in
    rw (c.as_slice.ensures, c.in_ok-insert.ensures) (omega (arith, inserted-length c.args.key entries, width-least entries, c.requires.met.1.fits))

pub split-requires-clause-few : goal.split-requires-clause-few
split-requires-clause-few g c =
    let entries = c.args.met.held.entries in
    rw c.in_ok-insert.ensures (omega (arith, inserted-length c.args.key entries, width-least entries, c.requires.met.1.fits))

pub split-requires-clause-short : goal.split-requires-clause-short
split-requires-clause-short g c =
    let entries = c.args.met.held.entries in
    let all = rw (c.as_slice.ensures, c.in_ok-insert.ensures) at c.width-is_full.ensures.lawful in
    rw c.in_ok-insert.ensures (omega (arith, inserted-width c.args.key entries, entry-short c.args.key (inserted-one IsFound c.args.key entries all), c.requires.met.1.fits))

pub returns-then-is_full-clause-placed : goal.returns-then-is_full-clause-placed
returns-then-is_full-clause-placed g c = λ base shown told.
    let met = c.args.met in
    let entries = entry_inserted c.args.key met.held.entries in
    let pages = drafted shown c.args.draft.now.list in
    let size = c.args.draft.now.size in
    let total : c.width-is_full.result ≡ width entries = rw (c.as_slice.ensures, c.in_ok-insert.ensures) at c.width-is_full.ensures.width in
    let full : have_room entries ≡ false = lt-leb (width entries) 1016 (omega (arith, total)) in
    allowed_on (λ (x : Climb). (x, drafted shown c.split.new.draft.list)) (split size c.args.root met.page (with_entries met.held entries) c.args.edits pages) (placed size c.args.root met c.args.edits (Some c.args.key) pages) c.split.result
    (placed-full size c.args.root met c.args.edits c.args.key pages full)
    (rw c.in_ok-insert.ensures at (c.split.ensures.split base shown told))
