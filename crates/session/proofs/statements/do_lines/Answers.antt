use Rattle.std.proofs.Common.{◌∙◌, ◌+◌, drop, subst}
use Rattle.session.specs.Statements.{Lines}
use Rattle.session.specs.LinesRun.{Midway}
use Rattle.session.proofs.Running.{cut_here, next_line, none_left, one_more}
use Rattle.session.proofs.statements.do_lines.Goals as goal

pub loop-line-preserved : goal.loop-line-preserved
loop-line-preserved g c = record {
  gives = λ one base shown tells.
      let added = c.in-Ok.ensures.gives one base shown tells in
      let before = c.loop-line.invariant.gives one base added.0 added.1 in (
        before.0,
        before.1,
        λ tables stored.
            one_more (g.P.Pager.size c.args.pager.now) (g.P.Pager.size c.loop-line.pager) c.loop-line.invariant.size c.args.lines.now (drop c.loop-line.line-index c.args.lines.now) (drop (c.loop-line.line-index + 1) c.args.lines.now) c.line-item.result
            (next_line c.args.lines.now c.loop-line.line-index c.line-item.result c.loop-line-test.true c.line-item.is) before.0 added.0 shown c.loop-line.text.items c.add_line.new.text.items tt added.2 tables (before.2 tables stored),
      );
  goes = g.met.P.Pager.goes_on _ _ _ c.loop-line.invariant.goes c.in-Ok.ensures.goes;
  size = c.in-Ok.ensures.size ∙ c.loop-line.invariant.size;
}

pub returns-in-Err-clause-gives : goal.returns-in-Err-clause-gives
returns-in-Err-clause-gives g c one base shown tells =
    let added = c.in-Err.ensures.gives one base shown tells in
    let before = c.loop-line.invariant.gives one base added.0 added.1 in (
      before.0,
      before.1,
      λ tables stored.
          cut_here (g.P.Pager.size c.args.pager.now) (g.P.Pager.size c.loop-line.pager) c.loop-line.invariant.size c.args.lines.now (drop c.loop-line.line-index c.args.lines.now) (drop (c.loop-line.line-index + 1) c.args.lines.now) c.line-item.result
          (next_line c.args.lines.now c.loop-line.line-index c.line-item.result c.loop-line-test.true c.line-item.is) before.0 added.0 shown c.loop-line.text.items c.add_line.new.text.items c.in-Err.why added.2 tables (before.2 tables stored),
    )

pub returns-clause-gives : goal.returns-clause-gives
returns-clause-gives g c one base shown tells =
    let before = c.loop-line.invariant.gives one base shown tells in (
      before.0,
      before.1,
      λ tables stored.
          subst (λ (ls : Lines). Midway (g.P.Pager.size c.args.pager.now) c.args.lines.now before.0 tables ls shown c.loop-line.text.items) (none_left c.args.lines.now c.loop-line.line-index c.loop-line-test.false) (before.2 tables stored),
    )
