use Rattle.std.proofs.Common.{List, ℕ, Option, subst, sym}
use Rattle.script.specs.Limits.{LabelFits}
use Rattle.journal_law.specs.Seats.{CommitGives}
use Rattle.session.proofs.AttemptEnds.{label_is}
use Rattle.session.proofs.attempt.commit_as.Goals as goal

pub returns-in-None-clause-gives : goal.returns-in-None-clause-gives
returns-in-None-clause-gives g c a is =
    subst (λ (l : Option (List ℕ)). CommitGives l (g.S.Seat.view c.args.seat.now) (g.S.Seat.view c.commit.new.self) a c.commit.result) (sym c.in-None.is) (c.commit.ensures.gives a is)

pub commit-requires-in-Some-clause-label : goal.commit-requires-in-Some-clause-label
commit-requires-in-Some-clause-label g c = rw c.bytes.ensures.value (label_is _ (subst LabelFits c.in-Some.is c.requires.label) c.bytes.ensures.is_text)
