use Rattle.std.proofs.Common.{Ok, Err, Result, subst, sym}
use Rattle.pager.specs.Pages.{Leads}
use Rattle.retro_base.specs.declared.refusal.Refusal.{Refusal}
use Rattle.script.specs.declared.structure.Reading.TheVariants as reading
use Rattle.session.specs.LinesRun.{LineGives}
use Rattle.session.proofs.Running.{as_outcome, run_gives}
use Rattle.session.proofs.statements.do_statement.Goals as goal

pub returns-in-Ok-clause-gives : goal.returns-in-Ok-clause-gives
returns-in-Ok-clause-gives g c one =
    run_gives (g.P.Pager.size c.args.pager.now) c.args.statement.now (g.P.Pager.tells c.args.pager.now) (g.P.Pager.tells c.run.new.pager) (Ok c.in-Ok.reply) (one c.args.pager.now) c.in-Ok.ensures.runs

pub returns-in-Ok-reply_or_stop-clause-gives : goal.returns-in-Ok-reply_or_stop-clause-gives
returns-in-Ok-reply_or_stop-clause-gives g c one =
    subst
    (λ (r : Result Refusal Refusal). Leads (g.P.Pager.tells c.args.pager.now) (g.P.Pager.tells c.run.new.pager) (λ was now. LineGives (g.P.Pager.size c.args.pager.now) (reading.Read c.args.statement.now) was now (as_outcome r)))
    (sym c.in-Ok-reply_or_stop.ensures)
    (run_gives (g.P.Pager.size c.args.pager.now) c.args.statement.now (g.P.Pager.tells c.args.pager.now) (g.P.Pager.tells c.run.new.pager) (Err c.in-Err.stop) (one c.args.pager.now) c.in-Err.ensures.runs)

pub returns-in-Err-reply_or_stop-clause-gives : goal.returns-in-Err-reply_or_stop-clause-gives
returns-in-Err-reply_or_stop-clause-gives g c one =
    subst
    (λ (r : Result Refusal Refusal). Leads (g.P.Pager.tells c.args.pager.now) (g.P.Pager.tells c.run.new.pager) (λ was now. LineGives (g.P.Pager.size c.args.pager.now) (reading.Read c.args.statement.now) was now (as_outcome r)))
    (sym c.in-Err-reply_or_stop.ensures)
    (run_gives (g.P.Pager.size c.args.pager.now) c.args.statement.now (g.P.Pager.tells c.args.pager.now) (g.P.Pager.tells c.run.new.pager) (Err c.in-Err.stop) (one c.args.pager.now) c.in-Err.ensures.runs)
