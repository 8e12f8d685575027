use Rattle.std.proofs.Common.{◌∙◌, ap, subst, arith}
use Rattle.records.specs.Reading.{Decodes, whole_entry}
use Rattle.records.proofs.Spelling.{is_found, whole_taken}
use Rattle.records.proofs.decoding.decode.Goals as goal

pub returns-clause-found : goal.returns-clause-found
returns-clause-found c = is_found c.args.version c.args.bytes.now c.whole.result (λ i. omega (arith, c.type_inv.bytes i)) c.whole.ensures

pub returns-clause-only : goal.returns-clause-only
returns-clause-only c = λ entry fits e. subst (λ reading. Decodes (λ x. x) c.whole.result reading) (ap (whole_entry c.args.version) e ∙ whole_taken c.args.version entry fits) c.whole.ensures
