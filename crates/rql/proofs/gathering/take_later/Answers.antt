use Rattle.std.proofs.Common.{Ok, rules}
use Rattle.rql.proofs.Gatherings.{refused_again, taken_again}
use Rattle.rql.proofs.gathering.take_later.Goals as goal

pub returns-in_err-part-clause-told : goal.returns-in_err-part-clause-told
returns-in_err-part-clause-told g c = λ answers e.
    refused_again (g.T.Takes.take c.args.takes.now) (λ snapshot. answers snapshot c.args.query.now) c.args.columns.now c.args.snapshot c.in_ok-its_columns.field-0
    (c.in_ok-its_columns.ensures.told answers e) (search rules) c.in_err-part.field-0.0 c.from_residual-in_err-part.result (search rules) (search rules)

pub returns-then-same_columns-clause-told : goal.returns-then-same_columns-clause-told
returns-then-same_columns-clause-told g c = λ answers e.
    taken_again (g.T.Takes.take c.args.takes.now) (λ snapshot. answers snapshot c.args.query.now) c.args.columns.now c.args.snapshot c.in_ok-its_columns.field-0
    (c.in_ok-its_columns.ensures.told answers e) (search rules) (Ok c.in_ok-part.part) (search rules)
