use Rattle.std.proofs.Common.{◌≡◌, ◌∙◌, ap, List, refl}
use Rattle.std.specs.List.{insert}
use Rattle.heap_file.specs.declared.page.Entry.{Entry}
use Rattle.heap_file.proofs.Packing.{with_fits}
use Rattle.heap_file.proofs.drafting.with_entry.Goals as goal

pub returns : goal.returns
returns c =
    let held = c.args.held in
    let entries : c.from.result ≡ insert held.entries c.args.place c.args.entry = c.from.ensures ∙ c.in_ok-insert.ensures.items ∙ ap (λ (es : List Entry). insert es c.args.place c.args.entry) c.from-entries.ensures in
    rw entries (refl, with_fits held c.args.place c.args.entry c.requires.held c.requires.entry c.requires.room)
