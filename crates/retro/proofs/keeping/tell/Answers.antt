use Rattle.std.proofs.Common.{◌∙◌, ap, sym}
use Rattle.retro.specs.Keeping.{has_fault}
use Rattle.retro.specs.Says.{number_of}
use Rattle.retro.specs.Seen.{seen}
use Rattle.retro.specs.Storing.{IsPrinted}
use Rattle.retro.proofs.Faulted.{with_fault, with_none, with_wanting, writes_one}
use Rattle.retro.proofs.keeping.tell.Goals as goal

pub returns-then-has_fault-clause-ends : goal.returns-then-has_fault-clause-ends
returns-then-has_fault-clause-ends g c = (
  number_of c.write_made-status.result,
  writes_one (seen g.K.Sink.held g.K.Sink.faults c.args.sink.now c.write_made-status.new.sink) (λ text. text.items) (IsPrinted c.args.plan.now c.args.ended.now) c.transcript_of.result (number_of c.write_made-status.result) c.transcript_of.ensures
      c.write_made-status.ensures.ok c.write_made-status.ensures.err,
  c.in_place.ensures.number ∙ with_fault c.args.ended.now (number_of c.write_made-status.result) (sym (c.has_fault.ensures ∙ ap has_fault c.as_slice.ensures) ∙ c.if-has_fault.true),
)

pub returns-then-not-ended-clause-ends : goal.returns-then-not-ended-clause-ends
returns-then-not-ended-clause-ends g c = (
  number_of c.write_made-status.result,
  writes_one (seen g.K.Sink.held g.K.Sink.faults c.args.sink.now c.write_made-status.new.sink) (λ text. text.items) (IsPrinted c.args.plan.now c.args.ended.now) c.transcript_of.result (number_of c.write_made-status.result) c.transcript_of.ensures
      c.write_made-status.ensures.ok c.write_made-status.ensures.err,
  c.in_place-then-not-ended.ensures.number ∙ with_wanting c.args.ended.now (number_of c.write_made-status.result) (sym (c.has_fault.ensures ∙ ap has_fault c.as_slice.ensures) ∙ c.if-has_fault.false) c.if-not-ended.true,
)

pub returns-clause-ends : goal.returns-clause-ends
returns-clause-ends g c = (
  number_of c.write_made-status.result,
  writes_one (seen g.K.Sink.held g.K.Sink.faults c.args.sink.now c.write_made-status.new.sink) (λ text. text.items) (IsPrinted c.args.plan.now c.args.ended.now) c.transcript_of.result (number_of c.write_made-status.result) c.transcript_of.ensures
      c.write_made-status.ensures.ok c.write_made-status.ensures.err,
  with_none c.args.ended.now (number_of c.write_made-status.result) (sym (c.has_fault.ensures ∙ ap has_fault c.as_slice.ensures) ∙ c.if-has_fault.false) c.if-not-ended.false,
)
