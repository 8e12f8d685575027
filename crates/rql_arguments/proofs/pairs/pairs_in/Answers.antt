use Rattle.std.proofs.Common.{◌≡◌, ◌∙◌, sym, ap}
use Rattle.std.proofs.lemmas.Result.{IfOk-weaker}
use Rattle.sql_text.specs.Places.{tokens_of}
use Rattle.rql_arguments.specs.Reading.{pairs_of}
use Rattle.rql_arguments.proofs.PairLaws.{finds_pairs}
use Rattle.rql_arguments.proofs.pairs.pairs_in.Goals as goal

pub returns-then-is_whole : goal.returns-then-is_whole
returns-then-is_whole c =
    let lexed = c.in_ok-lexed.lexed in
    IfOk-weaker c.pairs_of.result _ _
    (λ found e. finds_pairs c.one_reading.ensures c.args.text.now lexed.tokens lexed.ending found c.in_ok-lexed.ensures (sym c.is_whole.ensures ∙ c.if-is_whole.true) (e ∙ ap (λ ts. pairs_of (tokens_of ts)) c.as_slice.ensures))
    c.pairs_of.ensures
