use Rattle.std.proofs.Common.{◌∙◌, sym}
use Rattle.archive.proofs.Refusals.{none_kept}
use Rattle.archive.proofs.archive.Archive.enter_batch.Goals as goal

pub invariant_of-self-in-Err : goal.invariant_of-self-in-Err
invariant_of-self-in-Err g c = record {
  slots = c.self.invariant.slots ∙ sym c.enter_batch.ensures.same.capacity;
  going = λ none. c.in-Err.ensures.enters.going (none_kept c.self.inside.first_fault c.in-Err.why (sym c.keep.ensures.kept ∙ none));
}
