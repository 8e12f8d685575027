use Rattle.std.proofs.Common.{arith}
use Rattle.std.proofs.lemmas.Int.Digits.{digits_value_more}
use Rattle.sql_lexer.proofs.Runs.{digit_at}
use Rattle.sql_lexer.proofs.lexer.saturating_number.Goals as goal

pub loop-digit-preserved : goal.loop-digit-preserved
loop-digit-preserved c =
    let digits = c.args.digits.now in
    let i = c.loop-digit.digit-index in
    omega (arith, digits_value_more 10 digits i (omega arith), digit_at digits i c.requires (omega arith))
