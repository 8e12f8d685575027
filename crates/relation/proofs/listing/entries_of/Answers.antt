use Rattle.std.proofs.Common.{◌≡◌, ◌∙◌, None, Some, refl, sym, take}
use Rattle.std.proofs.lemmas.List.{append-nil}
use Rattle.relation.specs.Entries.{entries_of, entry_of}
use Rattle.relation.proofs.Steps.{filter_map-next}
use Rattle.relation.proofs.listing.entries_of.Goals.{in-Some+in_ok-push, in_default}
use Rattle.relation.proofs.listing.entries_of.Goals as goal

pub loop-placed-preserved : goal.loop-placed-preserved
loop-placed-preserved c =
    let next = filter_map-next (entry_of c.args.place) c.args.rows.now c.loop-placed.placed-index c.placed-item.result c.loop-placed-test.true c.placed-item.is in
    elim c.match-branch-3.branch [
      | in-Some+in_ok-push w ↦
          let made : entry_of c.args.place c.placed-item.result ≡ Some w.in-Some.entry = sym c.in_ok-entry.ensures ∙ w.in-Some.is in
          rw (w.entries-is, w.in_ok-push.ensures.items, c.loop-placed.invariant, next, made) refl
      | in_default w ↦
          let made : entry_of c.args.place c.placed-item.result ≡ None = sym c.in_ok-entry.ensures ∙ w.in_default.is in
          rw (w.entries-is, c.loop-placed.invariant, next, made) (sym (append-nil (entries_of c.args.place (take c.loop-placed.placed-index c.args.rows.now))))
    ]
