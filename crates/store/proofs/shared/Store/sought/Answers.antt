use Rattle.std.proofs.Common.{◌∙◌, ⊎_elim, ap, sym, arith}
use Rattle.store.proofs.Finding.{all_causes, cause_in, counts_rise, fault_is_new, find_rises, finds_in, met_here, vault_still}
use Rattle.store.proofs.shared.Store.sought.Goals as goal

pub find-found-requires-clause-met : goal.find-found-requires-clause-met
find-found-requires-clause-met g c = let s = c.requires.seeking in met_here g.D.Disk.is_honest g.D.Disk.state g.D.Disk.faults _ c.args.seat.now c.enter_vault-archive.new.seat c.enter_vault-archive.result c.enter_vault-archive.ensures c.args.snapshot c.args.table.now c.requires.seeking s.start s.origin s.opening_is s.opened

pub leave_vault-requires : goal.leave_vault-requires
leave_vault-requires g c =
    let f = c.find-found.ensures in (
      c.args.seat.now,
      c.enter_vault-archive.result,
      c.enter_vault-archive.ensures,
      record {
        held = let e = ap (λ a. a.side.held) f.same in omega (arith, e);
        counts = counts_rise g.D.Disk.is_honest g.D.Disk.state g.D.Disk.faults _ c.args.seat.now c.enter_vault-archive.new.seat c.enter_vault-archive.result c.enter_vault-archive.ensures c.args.snapshot c.args.table.now c.requires.seeking c.find-found.new.self f.same f.file (find_rises _ _ _ _ c.find-found.result f.cause);
        fits = λ x e. (
          vault_still g.D.Disk.is_honest g.D.Disk.state g.D.Disk.faults _ c.args.seat.now c.enter_vault-archive.new.seat c.enter_vault-archive.result c.enter_vault-archive.ensures c.args.snapshot c.args.table.now c.requires.seeking c.find-found.new.self f.same f.file (λ vault is. (f.vault vault is).stays) x e,
          λ d. let a = c.enter_vault-archive.ensures.later x (sym c.enter_vault-archive.ensures.same.opening ∙ e) d in let b = counts_rise g.D.Disk.is_honest g.D.Disk.state g.D.Disk.faults _ c.args.seat.now c.enter_vault-archive.new.seat c.enter_vault-archive.result c.enter_vault-archive.ensures c.args.snapshot c.args.table.now c.requires.seeking c.find-found.new.self f.same f.file (find_rises _ _ _ _ c.find-found.result f.cause) d in omega (arith, a, b),
        );
      },
    )

pub returns-clause-ready : goal.returns-clause-ready
returns-clause-ready g c = (c.leave_vault.ensures.visited c.args.seat.now c.enter_vault-archive.result c.enter_vault-archive.ensures).ready

pub returns-clause-same : goal.returns-clause-same
returns-clause-same g c = let v = (c.leave_vault.ensures.visited c.args.seat.now c.enter_vault-archive.result c.enter_vault-archive.ensures) in record { same = v.same; rises = v.rises; more = _; mine_is = v.mine_is }

pub returns-clause-waits : goal.returns-clause-waits
returns-clause-waits g c = (c.leave_vault.ensures.visited c.args.seat.now c.enter_vault-archive.result c.enter_vault-archive.ensures).waits

pub returns-clause-finds : goal.returns-clause-finds
returns-clause-finds g c = finds_in g.D.Disk.is_honest g.D.Disk.state g.D.Disk.faults _ c.args.seat.now c.enter_vault-archive.new.seat c.enter_vault-archive.result c.enter_vault-archive.ensures c.args.snapshot c.args.table.now c.requires.seeking c.args.upto c.args.page c.requires.held c.find-found.new.table c.args.steps.now c.find-found.new.steps c.find-found.ensures.covers c.leave_vault.new.seat c.find-found.new.self (c.leave_vault.ensures.visited c.args.seat.now c.enter_vault-archive.result c.enter_vault-archive.ensures) c.leave_vault.ensures.seen c.args.out.now c.find-found.new.out c.find-found.result c.find-found.ensures.file c.find-found.ensures.vault

pub returns-clause-cause : goal.returns-clause-cause
returns-clause-cause g c =
    all_causes c.find-found.result _ _ _ c.find-found.ensures.cause
    (λ fault e refused. cause_in g.D.Disk.is_honest g.D.Disk.state g.D.Disk.faults _ c.args.seat.now c.enter_vault-archive.new.seat c.enter_vault-archive.result c.enter_vault-archive.ensures c.args.snapshot c.args.table.now c.requires.seeking c.args.upto c.args.page c.requires.held c.find-found.new.table c.args.steps.now c.find-found.new.steps c.find-found.ensures.covers c.leave_vault.new.seat c.find-found.new.self (c.leave_vault.ensures.visited c.args.seat.now c.enter_vault-archive.result c.enter_vault-archive.ensures) c.leave_vault.ensures.seen c.args.out.now c.find-found.new.out fault (λ d k why. c.fault_fits.ensures fault d k e why) refused)

pub returns-clause-fault : goal.returns-clause-fault
returns-clause-fault g c =
    all_causes c.find-found.result _ _ _ c.find-found.ensures.cause
    (λ fault e refused. fault_is_new g.D.Disk.is_honest g.D.Disk.state g.D.Disk.faults _ c.args.seat.now c.enter_vault-archive.new.seat c.enter_vault-archive.result c.enter_vault-archive.ensures c.args.snapshot c.args.table.now c.requires.seeking c.find-found.new.self c.find-found.ensures.same c.find-found.ensures.file fault c.args.table.now.covered c.args.upto refused)

pub returns-clause-visits : goal.returns-clause-visits
returns-clause-visits g c =
    let f = c.find-found.ensures in
    record {
      looks = record {
        before = c.enter_vault-archive.result;
        after = c.find-found.new.self;
        visited = c.leave_vault.ensures.visited c.args.seat.now c.enter_vault-archive.result c.enter_vault-archive.ensures;
        same = f.same;
        quiet = f.quiet;
      };
      none = f.covers.no_cost;
      cost = f.covers.cost;
    }

pub returns-clause-grows : goal.returns-clause-grows
returns-clause-grows g c = ⊎_elim (λ same. omega (arith, same)) (λ grown. omega (arith, grown)) c.find-found.ensures.covers.covered
