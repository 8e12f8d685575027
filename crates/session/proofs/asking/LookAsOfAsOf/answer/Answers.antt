use Rattle.std.proofs.Common.{Result, Ok, Err, subst}
use Rattle.pager.specs.Stop.{Allowed}
use Rattle.pager.specs.declared.stop.Stop.{Stop}
use Rattle.retro_base.specs.declared.refusal.Refusal.{Refusal}
use Rattle.sql_select.specs.declared.answer.Answer.{Answer}
use Rattle.std.proofs.Common.{◌≡◌}
use Rattle.session.proofs.PastAnswers.{alone_allowed, past_told}
use Rattle.session.proofs.asking.LookAsOfAsOf.answer.Goals as goal

pub returns-in-Ok-clause-told : goal.returns-in-Ok-clause-told
returns-in-Ok-clause-told g c = λ answers told.
    let old = c.args.self.now.pager in
    let q = c.ask.new.pager in
    let goes = c.ask.ensures.reads.goes_on in
    past_told c.args.query.now c.args.snapshot q.snapshot (g.S.Seat.is_honest q.seat) (g.S.Seat.view old.seat) (g.S.Seat.view q.seat) answers (Ok c.in-Ok.answer) old.looking_now c.requires.asked
    goes.2.moves.opened goes.2.work goes.1 ((g.S.Seat.honest_stays old.seat q.seat goes.0).0 told.0) told.1 c.in-Ok.ensures.asks.over_tables

pub returns-in-Err-Refused-clause-told : goal.returns-in-Err-Refused-clause-told
returns-in-Err-Refused-clause-told g c = λ answers told.
    let old = c.args.self.now.pager in
    let q = c.ask.new.pager in
    let goes = c.ask.ensures.reads.goes_on in
    let P : Stop Refusal → Type 0 = λ s. Allowed (λ (a : Answer). a) (λ (r : Result Answer Refusal). answers c.args.snapshot c.args.query.now ≡ r) (Err s) in
    rw c.of_query_alone.ensures.exact
    (alone_allowed (λ (why : Refusal). answers c.args.snapshot c.args.query.now ≡ Err why) c.in-Err-Refused.why
    (subst P c.in-Err-Refused.field-0-is
    (past_told c.args.query.now c.args.snapshot q.snapshot (g.S.Seat.is_honest q.seat) (g.S.Seat.view old.seat) (g.S.Seat.view q.seat) answers (Err c.in-Err-Refused.field-0) old.looking_now c.requires.asked
    goes.2.moves.opened goes.2.work goes.1 ((g.S.Seat.honest_stays old.seat q.seat goes.0).0 told.0) told.1 c.in-Err-Refused.ensures.asks.over_tables)))
