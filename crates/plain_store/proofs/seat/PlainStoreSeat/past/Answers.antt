use Rattle.std.proofs.Common.{◌∙◌, ◌<◌, [], Ok, sym, ap, subst}
use Rattle.journal_law.specs.Seats as seat
use Rattle.plain_store.specs.Page.{PlainPage, bytes_at}
use Rattle.plain_store.specs.Plain.{Plain, view_of}
use Rattle.plain_store.proofs.Looks.{past_gives}
use Rattle.plain_store.proofs.Stored.{same_at}
use Rattle.plain_store.proofs.seat.PlainStoreSeat.past.Goals as goal

pub returns-clause-gives : goal.returns-clause-gives
returns-clause-gives c a looking =
    let p : Plain = record { session = c.self.inside.session; base = c.self.inside.base; book = c.self.inside.book; pages = c.self.inside.pages.items; work = c.self.inside.work } in
    let lt : c.args.page < p.base.page_count = subst (λ (r : Plain). c.args.page < r.base.page_count) (sym c.self.view_is) c.requires.in_store in
    let there = c.index.ensures ∙ same_at p.pages c.args.page c.index.result.now (record { bytes = []; past = [] }) (subst (λ n. c.args.page < n) (sym c.self.invariant.long) lt) in
    subst (λ (r : Plain). seat.PastGives (Unit {0}) c.args.snapshot c.args.page c.bytes_at.result.now (view_of r) (view_of r) a (Ok tt)) c.self.view_is
    (past_gives p c.args.snapshot c.args.page c.bytes_at.result.now a c.self.invariant lt (c.bytes_at.ensures ∙ ap (λ (v : PlainPage). bytes_at c.args.snapshot v.bytes v.past) there) (ap (λ (r : Plain). (view_of r).work) c.self.view_is ∙ looking))
