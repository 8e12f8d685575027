use Rattle.std.proofs.Common.{[], arith, length-drop}
use Rattle.std.proofs.lemmas.List.{append-nil, append_assoc}
use Rattle.sql_lexer.proofs.Steps.{blank_at, token_at, token_within, bad_byte_at, unclosed_at, whole_at}
use Rattle.sql_lexer.proofs.lexer.lex.Goals as goal

pub loop-place-preserved-in-Blank : goal.loop-place-preserved-in-Blank
loop-place-preserved-in-Blank c = record {
  within = omega arith;
  goes_on = λ tokens ending rest. c.loop-place.invariant.goes_on tokens ending (blank_at _ _ _ (omega arith) c.in_ok-front_of.ensures c.in-Blank.is tokens ending rest);
}

pub loop-place-preserved : goal.loop-place-preserved
loop-place-preserved c =
    let first = token_within c.args.line.now c.loop-place.place _ _ _ c.in_ok-front_of.ensures c.in-Token.is in
    record {
      within = omega (arith, first.within, length-drop c.loop-place.place c.args.line.now);
      goes_on = λ tokens ending rest. rw (c.in_ok-push-in-Token.ensures.ok, append_assoc) (c.loop-place.invariant.goes_on _ ending (token_at _ _ _ _ _ c.in_ok-front_of.ensures c.in-Token.is tokens ending rest));
    }

pub returns-in-BadByte : goal.returns-in-BadByte
returns-in-BadByte c = rw (← append-nil c.loop-place.tokens) (c.loop-place.invariant.goes_on [] _ (bad_byte_at _ _ _ _ c.in_ok-front_of.ensures c.in-BadByte.is))

pub returns-in-Unclosed : goal.returns-in-Unclosed
returns-in-Unclosed c = rw (← append-nil c.loop-place.tokens) (c.loop-place.invariant.goes_on [] _ (unclosed_at _ _ _ c.in_ok-front_of.ensures c.in-Unclosed.is))

pub returns : goal.returns
returns c = rw (← append-nil c.loop-place.tokens) (c.loop-place.invariant.goes_on [] _ (whole_at _ _ (omega arith)))
