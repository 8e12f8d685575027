use Rattle.std.proofs.lemmas.Result.{err_from_is_err_and, IfErr-weaker}
use Rattle.sql_grammar.specs.declared.grammar.Rule.TheVariants.{Sentence}
use Rattle.sql_text.proofs.Saying.{open_at_end, refused_early, refused_whole}
use Rattle.sql_grammar.proofs.Steps.{reads}
use Rattle.sql_text.specs.Places.{tokens_of}
use Rattle.sql_text.proofs.reading.read.Goals as goal

pub finish-requires-clause-stands : goal.finish-requires-clause-stands
finish-requires-clause-stands c = (tokens_of c.args.lexed.tokens, c.in_ok-begin-in-Whole.ensures.ok)

pub returns-in_err-begin-in-Whole-clause-err : goal.returns-in_err-begin-in-Whole-clause-err
returns-in_err-begin-in-Whole-clause-err c =
    let p = err_from_is_err_and c.from_residual-in_err-begin-in-Whole.result c.from_residual-in_err-begin-in-Whole.ensures.1 in
    rw (p.1, p.2) (refused_whole c.args.lexed c.args.end _ c.in-Whole.is c.in_err-begin-in-Whole.ensures.err)

pub returns-in_ok-begin-in-Unclosed-clause-err : goal.returns-in_ok-begin-in-Unclosed-clause-err
returns-in_ok-begin-in-Unclosed-clause-err c = open_at_end c.args.lexed _ _ c.in-Unclosed.is (reads Sentence _ _ _ c.in_ok-begin-in-Unclosed.ensures.ok) c.syntax-in-Unclosed.ensures

pub returns-in_ok-begin-in-Whole-clause-err : goal.returns-in_ok-begin-in-Whole-clause-err
returns-in_ok-begin-in-Whole-clause-err c =
    let stands = c.in_ok-begin-in-Whole.ensures.ok in
    IfErr-weaker c.finish.result _ _ (λ e h. refused_early c.args.lexed c.args.end e c.in-Whole.is (reads Sentence _ _ _ stands) (h _ stands)) c.finish.ensures.err
