use Rattle.std.proofs.Common.{◌∙◌, ap, sym}
use Rattle.store.proofs.Seating.{may_open, new_ready, new_seats, newest_told, sized_by}
use Rattle.store.proofs.shared.Store.new.Goals as goal

pub new-requires-clause-open : goal.new-requires-clause-open
new-requires-clause-open g c = may_open g.D.Disk.is_honest g.D.Disk.state g.D.Disk.faults c.args.core c.args.archive (record { core = c.of.result; archive = c.of-2.result; seats = c.of-3.result }) c.of.ensures c.of-2.ensures c.requires.opened

pub returns-in-Ok-clause-ready : goal.returns-in-Ok-clause-ready
returns-in-Ok-clause-ready g c = λ k s there. new_ready _ _ c.in-Ok.seats.items c.in-Ok.ensures.new k s there (c.of-3.ensures ∙ sym c.in-Ok.ensures.seats.1)

pub returns-in-Ok-clause-new : goal.returns-in-Ok-clause-new
returns-in-Ok-clause-new g c = λ k s there. new_seats _ _ c.in-Ok.seats.items c.in-Ok.ensures.new k s there _ _ c.of.ensures c.of-2.ensures

pub returns-in-Ok-clause-sized : goal.returns-in-Ok-clause-sized
returns-in-Ok-clause-sized g c = λ k s there. sized_by c.args.core c.args.archive s _ (new_seats _ _ c.in-Ok.seats.items c.in-Ok.ensures.new k s there _ _ c.of.ensures c.of-2.ensures).3 (ap (λ s. s.pages) c.sizes-pages.ensures)

pub returns-in-Ok-clause-begins : goal.returns-in-Ok-clause-begins
returns-in-Ok-clause-begins g c = let e = c.in-Ok.ensures.opening in (ap (λ s. s.core.value) e ∙ c.of.ensures, ap (λ s. s.archive.value) e ∙ c.of-2.ensures)

pub returns-in-Ok-clause-sat : goal.returns-in-Ok-clause-sat
returns-in-Ok-clause-sat g c = ap (λ s. s.seats.value) c.in-Ok.ensures.opening ∙ c.of-3.ensures

pub returns-in-Ok-clause-newest : goal.returns-in-Ok-clause-newest
returns-in-Ok-clause-newest g c = newest_told g.D.Disk.is_honest g.D.Disk.state c.args.core c.args.archive c.requires.opened c.horizon-newest.result c.horizon-newest.ensures
