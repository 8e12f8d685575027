use Rattle.std.proofs.Common.{◌∙◌, ◌≤◌, ℕ, Bool, Result, refl, sym, ap, subst, arith}
use Rattle.race_model.specs.declared.fault.Fault.{Fault}
use Rattle.archive.specs.Archive.{Finds, IsVault, Running}
use Rattle.archive.proofs.Finding.{finds_none, finds_nothing, finds_some, stays_vault}
use Rattle.archive.proofs.archive.Archive.find.Goals as goal
use Rattle.archive.proofs.archive.Archive.find.Goals.{in-Ok, in-Err-fetch}

pub returns-after-fetch-clause-vault : goal.returns-after-fetch-clause-vault
returns-after-fetch-clause-vault g c =
    let old : Running g.row.D.Denot = record { side = c.self.inside.side; pagelog = c.self.inside.pagelog; laid = c.self.inside.laid; first_fault = c.self.inside.first_fault } in
    let new : Running g.row.D.Denot = record { side = c.self.inside.side; pagelog = c.fetch.new.self; laid = c.self.inside.laid; first_fault = c.self.inside.first_fault } in
    let start : ℕ = c.args.table.now.start in
    let above : old.side.levels.low ≤ start = omega (arith, c.requires.met.above, ap (λ (a : Running g.row.D.Denot). a.side.levels.low) c.self.view_is) in
    let known : c.args.upto ≤ old.side.held = omega (arith, c.requires.held, ap (λ (a : Running g.row.D.Denot). a.side.held) c.self.view_is) in
    rw (← c.self.view_is)
    (λ vault is.
    let stays : IsVault g.D.Disk.is_honest g.D.Disk.state new vault = stays_vault g.D.Disk.is_honest g.D.Disk.state old new vault is start c.args.upto c.args.page above known refl refl refl c.fetch.ensures.same (λ told. (c.fetch.ensures.quiet told).unchanged) in
    elim c.match-fetch.branch [
      | in-Ok w ↦
          subst (λ (r : Result Bool Fault). Finds g.D.Disk.is_honest g.D.Disk.state old new vault start c.args.upto c.args.page c.args.out.now c.fetch.new.out r) (sym w.result-is)
          (finds_some g.D.Disk.is_honest g.D.Disk.state old new vault is start c.args.upto c.args.page above known c.in-Ok-Some.number c.args.out.now c.fetch.new.out stays (sym c.in-Ok-Some.field-0-is ∙ c.in-Ok-Some.ensures.first) w.in-Ok.ensures.fetched)
      | in-Err-fetch w ↦
          subst (λ (r : Result Bool Fault). Finds g.D.Disk.is_honest g.D.Disk.state old new vault start c.args.upto c.args.page c.args.out.now c.fetch.new.out r) (sym w.result-is)
          (finds_nothing g.D.Disk.is_honest g.D.Disk.state old new vault is start c.args.upto c.args.page above known c.args.out.now c.fetch.new.out _ stays)
    ])

pub returns-in-Ok-None-clause-vault : goal.returns-in-Ok-None-clause-vault
returns-in-Ok-None-clause-vault g c =
    let old : Running g.row.D.Denot = record { side = c.self.inside.side; pagelog = c.self.inside.pagelog; laid = c.self.inside.laid; first_fault = c.self.inside.first_fault } in
    let start : ℕ = c.args.table.now.start in
    let above : old.side.levels.low ≤ start = omega (arith, c.requires.met.above, ap (λ (a : Running g.row.D.Denot). a.side.levels.low) c.self.view_is) in
    let known : c.args.upto ≤ old.side.held = omega (arith, c.requires.held, ap (λ (a : Running g.row.D.Denot). a.side.held) c.self.view_is) in
    rw (← c.self.view_is)
    (λ vault is. finds_none g.D.Disk.is_honest g.D.Disk.state old old vault is start c.args.upto c.args.page above known c.args.out.now is (sym c.in-Ok-None.field-0-is ∙ c.in-Ok-None.ensures.first))
