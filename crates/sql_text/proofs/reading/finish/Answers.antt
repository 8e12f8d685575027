use Rattle.sql_grammar.specs.declared.grammar.Rule.TheVariants.{Sentence}
use Rattle.sql_text.proofs.Saying.{builds_some, said, too_early}
use Rattle.sql_text.proofs.reading.finish.Goals as goal

pub returns-then-not-branch-clause-err : goal.returns-then-not-branch-clause-err
returns-then-not-branch-clause-err c = λ ts s. too_early _ ts _ _ _ c.if-not-branch.true (c.in_ok-finish.ensures Sentence ts s) c.syntax.ensures

pub unreachable-requires : goal.unreachable-requires
unreachable-requires c =
    let s = c.requires.stands in
    builds_some _ s.0 _ _ _ c.if-not-branch.false (c.in_ok-finish.ensures Sentence s.0 s.1) c.into_ops.ensures c.in_ok-parsed.ensures c.in-None.is

pub returns-clause-ok : goal.returns-clause-ok
returns-clause-ok c = λ ts s. said _ ts _ _ _ _ c.if-not-branch.false (c.in_ok-finish.ensures Sentence ts s) c.into_ops.ensures c.in_ok-parsed.ensures c.in-Some.is
