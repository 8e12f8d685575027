use Rattle.std.proofs.Common.{◌∙◌, ◌≤◌, sym, ap, subst, length, ◌++◌}
use Rattle.retro_base.specs.declared.device.Device.TheVariants.{Pagelog}
use Rattle.history.specs.declared.journal.What.TheVariants.{Fault}
use Rattle.turn.specs.Faults.{vault_faults}
use Rattle.turn.specs.Seats.{mine}
use Rattle.turn.specs.Views.{behind_vault}
use Rattle.turn_tests.specs.Meanings.{of_shelf, only}
use Rattle.turn_tests.specs.Ready.{IsTold}
use Rattle.turn_tests.proofs.Leaving.{told_by_vault}
use Rattle.turn_tests.proofs.visits.fail_in_vault.Goals as goal

pub returns-clause-ready : goal.returns-clause-ready
returns-clause-ready g c =
    let e = c.enter_vault-shelf.ensures in
    let now = c.leave_vault.ensures.mine c.enter_vault-shelf.result e.inside ∙ ap (behind_vault of_shelf c.enter_vault-shelf.result c.fail-count.new.self) e.same.1 in
    record { rests = c.leave_vault.ensures.rests; lines = subst (λ h. c.args.lines ≤ length h.lines) (sym now) c.requires.ready.lines }

pub returns-clause-same : goal.returns-clause-same
returns-clause-same g c =
    let e = c.enter_vault-shelf.ensures in
    let now = c.leave_vault.ensures.mine c.enter_vault-shelf.result e.inside ∙ ap (behind_vault of_shelf c.enter_vault-shelf.result c.fail-count.new.self) e.same.1 in
    record { number = c.leave_vault.ensures.same.0.number ∙ e.same.0.number; parts = ap (λ h. h.parts) now }

pub returns-clause-told : goal.returns-clause-told
returns-clause-told g c = λ call.
    let e = c.enter_vault-shelf.ensures in
    let f = c.fail-count.ensures in
    let old = c.enter_vault-shelf.result in
    let now = c.leave_vault.ensures.mine old e.inside ∙ ap (behind_vault of_shelf old c.fail-count.new.self) e.same.1 in
    subst (λ h. IsTold (Fault Pagelog c.fail-count.result call) h.faults) (sym now)
    (subst (λ n. IsTold (Fault Pagelog c.fail-count.result call) ((mine c.args.seat.now).faults ++ vault_faults (only Pagelog old.faults) (only Pagelog n))) (sym f.rest.1)
    (told_by_vault (mine c.args.seat.now).faults old.faults c.fail-count.result call f.more))
