use Rattle.std.proofs.Common.{◌∙◌, subst, sym}
use Rattle.retro_base.specs.declared.refusal.Refusal.{Refusal}
use Rattle.sql_grammar.specs.declared.grammar.Rule.TheVariants.{Sentence}
use Rattle.sql_text.specs.Reading.{IsRefusedAmong}
use Rattle.sql_text.proofs.Placing.{all_done, none_left, one_on, stops, took}
use Rattle.sql_grammar.proofs.Steps.{reads}
use Rattle.sql_text.proofs.reading.begin.Goals as goal

pub loop-placed-preserved : goal.loop-placed-preserved
loop-placed-preserved c = record {
  left = one_on _ _ _ _ _ c.loop-placed.invariant.left c.in-Some.ensures.steps.0;
  stands = took _ Sentence _ c.in-Some.placed _ _ c.if-not-branch.false (c.in_ok-take.ensures Sentence _ c.loop-placed.invariant.stands);
}

pub returns-then-not-branch-clause-err : goal.returns-then-not-branch-clause-err
returns-then-not-branch-clause-err c =
    let P : Refusal → Type 0 = λ e. IsRefusedAmong c.args.tokens e in
    let stands = c.loop-placed.invariant.stands in
    subst P (sym c.syntax.ensures)
    (stops _ _ _ _ _ c.in-Some.placed _ _ c.if-not-branch.true c.loop-placed.invariant.left c.in-Some.ensures.steps.0 (reads Sentence _ _ _ stands) (c.in_ok-take.ensures Sentence _ stands))

pub returns-clause-ok : goal.returns-clause-ok
returns-clause-ok c =
    all_done Sentence _ _ _ _ _ c.loop-placed.invariant.left (none_left _ (sym c.loop-placed.placed-iterator.rest.ok.0 ∙ c.in-None.ensures.steps.0)) c.loop-placed.invariant.stands
