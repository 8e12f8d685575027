use Rattle.std.proofs.Common.{◌≡◌, ◌∙◌, ap, List, remove}
use Rattle.heap_file.specs.declared.page.Entry.{Entry}
use Rattle.heap_file.proofs.Packing.{without_fits}
use Rattle.heap_file.proofs.drafting.without.Goals as goal

pub returns-clause-lawful : goal.returns-clause-lawful
returns-clause-lawful c =
    let entries : c.from.result ≡ remove c.args.held.entries c.args.place = c.from.ensures ∙ c.remove.ensures.items ∙ ap (λ (es : List Entry). remove es c.args.place) c.from-entries.ensures in
    rw entries (without_fits c.args.held c.args.place c.requires.place c.requires.held)
