use Rattle.std.proofs.Common.{[], append-nil, sym}
use Rattle.sql_grammar.proofs.Steps.{refuses_by, takes_by}
use Rattle.sql_grammar.proofs.machine.Machine.take.Goals as goal

pub returns-then-not-is_wanted : goal.returns-then-not-is_wanted
returns-then-not-is_wanted c = refuses_by _ _ _ _ _ _ _ _ c.class_of-class.ensures c.is_wanted.ensures c.if-not-is_wanted.true c.in_ok-settle.ensures

pub returns-in_ok-push : goal.returns-in_ok-push
returns-in_ok-push c = takes_by _ _ _ _ _ _ _ _ _ _ c.class_of-class.ensures c.is_wanted.ensures c.if-not-is_wanted.false c.in_ok-push.ensures.ok c.in-Some.ensures c.in_ok-settle.ensures

pub returns-in_default : goal.returns-in_default
returns-in_default c = takes_by _ _ _ _ _ _ _ _ [] _ c.class_of-class.ensures c.is_wanted.ensures c.if-not-is_wanted.false (sym (append-nil _)) c.in_default.ensures c.in_ok-settle.ensures
