use Rattle.std.proofs.Common.{◌∙◌, List, get_or, Ok, Some, ap, sym}
use Rattle.heap_file.specs.declared.page.Entry.{Entry}
use Rattle.heap_file.proofs.Ways.{row-none, row-placed}
use Rattle.heap_file.proofs.drafting.get.Goals as goal

pub returns-in-Some-clause-got : goal.returns-in-Some-clause-got
returns-in-Some-clause-got g c = λ base shown told.
    let entries = c.in_ok-held.held.entries in
    let found = rw c.as_slice.ensures at c.in-Some.ensures in
    let d = c.index-as_slice-place.result in
    let row = row-placed c.args.number entries c.in-Some.place d (sym found) in
    (c.in_ok-held.held, c.in_ok-held.ensures.read base shown told, ap (λ o. Ok o) (row ∙ ap (λ (es : List Entry). Some (get_or es c.in-Some.place d).row) (sym c.as_slice-in-Some.ensures) ∙ ap (λ r. Some r) (sym c.in_ok-copy-in-Some.ensures)))

pub returns-clause-got : goal.returns-clause-got
returns-clause-got g c = λ base shown told.
    let none = rw c.as_slice.ensures at c.in-None.ensures in
    (c.in_ok-held.held, c.in_ok-held.ensures.read base shown told, ap (λ o. Ok o) (row-none c.args.number c.in_ok-held.held.entries (sym none)))
