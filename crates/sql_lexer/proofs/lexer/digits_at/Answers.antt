use Rattle.std.specs.Char.{is_ascii_digit}
use Rattle.sql_lexer.proofs.Runs.{number_run, first_run}
use Rattle.sql_lexer.proofs.lexer.digits_at.Goals as goal

pub number_token-token-requires : goal.number_token-token-requires
number_token-token-requires c = number_run _ _ c.digits_length-length.ensures c.requires.some c.requires.digit

pub returns : goal.returns
returns c = first_run is_ascii_digit _ _ _ c.digits_length-length.ensures c.requires.some c.requires.digit c.number_token-token.ensures.spelt c.number_token-token.ensures.number
