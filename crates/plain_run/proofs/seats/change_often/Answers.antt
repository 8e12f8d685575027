use Rattle.std.proofs.Common.{◌∙◌, ◌<◌, refl, sym, ap, subst}
use Rattle.retro_base.specs.declared.who.Who.{Who}
use Rattle.journal_law.specs.Lawful.{Ground}
use Rattle.plain_run.proofs.seats.change_often.Goals as goal

pub change-requires-clause-idle : goal.change-requires-clause-idle
change-requires-clause-idle g c = c.loop-number.invariant.idle

pub change-requires-clause-own : goal.change-requires-clause-own
change-requires-clause-own g c = ap (λ (w : Who). w.session) c.item.ensures ∙ sym (c.loop-number.invariant.session ∙ c.requires.own)

pub change-requires-clause-in_store : goal.change-requires-clause-in_store
change-requires-clause-in_store g c = subst (λ (x : Ground). c.args.page < x.base.page_count) (sym c.loop-number.invariant.opened) c.requires.in_store

pub loop-number-init : goal.loop-number-init
loop-number-init g c = record { idle = c.requires.idle; session = refl; opened = refl }

pub loop-number-preserved : goal.loop-number-preserved
loop-number-preserved g c =
    let still = c.in_ok-change.ensures in
    record { idle = still.idle; session = still.session ∙ c.loop-number.invariant.session; opened = still.opened ∙ c.loop-number.invariant.opened }
