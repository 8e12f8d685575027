use Rattle.std.proofs.Common.{get_or}
use Rattle.values.specs.Name.{continues_word}
use Rattle.sql_lexer.proofs.Runs.{word_run, first_run, continues_from_begins}
use Rattle.sql_lexer.proofs.lexer.word_at.Goals as goal

pub word_token-requires : goal.word_token-requires
word_token-requires c = word_run _ _ c.word_length-length.ensures c.requires.some c.requires.word

pub returns : goal.returns
returns c = first_run continues_word _ _ _ c.word_length-length.ensures c.requires.some (continues_from_begins (get_or c.args.bytes.now 0 0) c.requires.word) c.in_ok-token.ensures.spelt c.in_ok-token.ensures.word
