use Rattle.std.proofs.Common.{[], ◌∙◌, ◌++◌, ap}
use Rattle.std.proofs.lemmas.List.{flat_map_more}
use Rattle.rql.specs.Collate.{joined}
use Rattle.rql.proofs.collating.AllRowsTakes.add.Goals as goal

pub returns : goal.returns
returns c = λ columns parts many held.
    c.in_ok-append.ensures.items ∙ ap (λ l. l ++ c.from-part.result.items) held ∙ ap (λ l. joined parts ++ l) c.from-part.ensures ∙ flat_map_more (λ list. list) [] parts c.args.part
