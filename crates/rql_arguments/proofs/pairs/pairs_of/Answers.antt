use Rattle.std.proofs.Common.{◌≡◌, ◌∙◌, ap, sym}
use Rattle.sql_text.specs.Places.{tokens_of}
use Rattle.rql_arguments.specs.Reading.{behind, pairs_of}
use Rattle.rql_arguments.proofs.PairLaws.{behind_nothing, pair_read, too_few}
use Rattle.rql_arguments.proofs.pairs.pairs_of.Goals as goal

pub loop-rest-init : goal.loop-rest-init
loop-rest-init c = behind_nothing _ (pairs_of (tokens_of c.args.tokens.now)) c.new-pairs.ensures

pub loop-rest-preserved : goal.loop-rest-preserved
loop-rest-preserved c =
    pair_read c.loop-rest.rest.now c.a-item.result c.b-item.result c.c-item.result c.d-item.result c.e-item.result c.comma-item.result c.loop-rest.pairs _ c.in-Some.pair _ c.in-len5-up.len_at_least c.in-len1-up.len_at_least c.a-item.is c.b-item.is
    c.c-item.is c.d-item.is c.e-item.is c.comma-item.is (sym c.in_ok-pair.ensures ∙ c.in-Some.is) (sym c.is_comma.ensures ∙ c.if-not-is_comma.false) c.in_ok-push-in-Some.ensures.ok c.loop-rest.invariant

pub returns : goal.returns
returns c = ap (behind c.loop-rest.pairs) (sym (too_few c.loop-rest.rest.now c.in_default.len_below)) ∙ c.loop-rest.invariant
